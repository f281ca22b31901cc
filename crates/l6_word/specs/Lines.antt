-- The lines of a text.
use Rattle.std.specs.Prelude.{ℕ, ◌==◌, ◌-◌, List, [], ◌∷◌, length, take, slice_index, if◌then◌else◌}
use Rattle.std.specs.List.{onto_first}
use Rattle.std.specs.Str.{byte}

-- the lines of a text: each ends at a line feed, and the last one, if it has a byte, at the end of
-- the text
abbrev pub lines_of : List ℕ → List (List ℕ)
lines_of [] = []
lines_of (first ∷ rest) =
    if first == byte "\n" then [] ∷ lines_of rest else onto_first first (lines_of rest)

-- a line without its last byte, where that is a carriage return
abbrev pub without_return : List ℕ → List ℕ
without_return line =
    if slice_index line (length line - 1) == byte "\r" then take (length line - 1) line else line
