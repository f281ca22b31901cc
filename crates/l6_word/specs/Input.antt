-- The characters of an input.
use Rattle.std.specs.Prelude.{ℕ, ◌++◌, List, map, take, replicate}
use Rattle.std.specs.List.{flat_map}
use Rattle.std.specs.Str.{byte}
use Rattle.l6_word.specs.Code.{input_code}
use Rattle.l6_word.specs.Lines.{lines_of, without_return}
use Rattle.l6_word.specs.Numerals.{input_width}

-- so many characters of a line, by their codes: those after are cut off, and where there are fewer,
-- blanks follow them
abbrev pub filled : ℕ → List ℕ → List ℕ
filled width line = take width (map input_code line ++ replicate width (input_code (byte " ")))

-- the characters of an input, by their codes: those of its lines, each cut or filled to the width of a
-- line
abbrev pub characters_of : List ℕ → List ℕ
characters_of text = flat_map (λ line. filled input_width (without_return line)) (lines_of text)
