-- How an input is kept, and how far it is taken.
use Rattle.std.specs.Prelude.{◌≡◌, ℕ, ◌+◌, ◌-◌, ◌*◌, ◌≤◌, ◌==◌, List, [], ◌∷◌, ◌++◌, length, map, take, drop, replicate, if◌then◌else◌}
use Rattle.std.specs.Int.Digits.{AllBelowBase}
use Rattle.std.specs.List.{flat_map}
use Rattle.std.specs.Str.{byte}
use Rattle.l6_word.specs.Code.{input_code}
use Rattle.l6_word.specs.Input.{characters_of, filled}
use Rattle.l6_word.specs.Numerals.{code_count, input_width}

-- the characters of an input, by their codes, and how many of them are taken
pub record Fed : Type 0 where
  pub characters : List ℕ
  pub taken : ℕ

-- the code of a blank
abbrev pub blank : ℕ
blank = input_code (byte " ")

-- what follows the codes of a line: no character has this code
abbrev pub line_end : ℕ
line_end = code_count

-- so much of a line is kept: the codes of as many characters as a line has, and the end
abbrev pub kept_line : ℕ → List ℕ → List ℕ
kept_line width line = map input_code (take width line) ++ line_end ∷ []

-- the characters of kept lines, from a column of the first on: blanks fill each line
abbrev pub spread : ℕ → ℕ → List ℕ → List ℕ
spread width column [] = []
spread width column (code ∷ codes) =
    if code == line_end then replicate (width - column) blank ++ spread width 0 codes
    else code ∷ spread width (column + 1) codes

-- the characters of an input that is kept so
abbrev pub characters_in : List ℕ → List ℕ
characters_in codes = spread input_width 0 codes

-- lines of a text are kept, and the rest of it is not yet
pub record KeepsLines (text codes rest : List ℕ) (count : ℕ) : Type 0 where
  pub lines : List (List ℕ)
  pub kept : codes ≡ flat_map (kept_line input_width) lines
  pub are : flat_map (filled input_width) lines ++ characters_of rest ≡ characters_of text
  pub counted : count ≡ length lines * input_width
  pub few : length lines + length rest ≤ length text

-- an input is kept, of which so many characters are taken and the next one is at a place and a
-- column
pub record IsFed (codes : List ℕ) (count taken place column : ℕ) : Type 0 where
  pub counted : count ≡ length (characters_in codes)
  pub within : taken ≤ count
  pub left : spread input_width column (drop place codes) ≡ drop taken (characters_in codes)
  pub below : AllBelowBase code_count (characters_in codes)
  pub near : column ≤ input_width + place
  pub inside : place ≤ length codes
