-- Laws of the characters of an input.
use Rattle.std.specs.Prelude.{◌≡◌, ℕ, ◌<◌, true, List, [], ◌∷◌, ◌++◌, length, map, Some}
use Rattle.std.specs.Str.{byte}
use Rattle.l6_word.specs.Code.{char_of, code_of, input_code}
use Rattle.l6_word.specs.Input.{characters_of, filled}
use Rattle.l6_word.specs.Lines.{without_return}
use Rattle.l6_word.specs.Numerals.{code_count, input_width}
use Rattle.l6_word.specs.Split.{lacks}

-- an empty input has no characters
abbrev pub NoneOfNone : Type 0
NoneOfNone = characters_of [] ≡ []

-- the characters of a line come before those of what is after it
abbrev pub LineByLine : Type 0
LineByLine =
    (line following : List ℕ) → lacks (byte "\n") line ≡ true →
    characters_of (line ++ byte "\n" ∷ following)
    ≡ filled input_width (without_return line) ++ characters_of following

-- a line of just as many characters as a line has is taken as it is
abbrev pub WholeLinesUnchanged : Type 0
WholeLinesUnchanged =
    (line following : List ℕ) → lacks (byte "\n") line ≡ true → without_return line ≡ line →
    length line ≡ input_width →
    characters_of (line ++ byte "\n" ∷ following) ≡ map input_code line ++ characters_of following

-- the character that has a code is read as that code
abbrev pub CodesAreReadAgain : Type 0
CodesAreReadAgain = (code : ℕ) → code < code_count → code_of (char_of code) ≡ Some code
