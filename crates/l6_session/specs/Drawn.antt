-- What is shown of a drawing: its first lines, and how many more there are.
use Rattle.std.specs.Prelude.{ℕ, ◌+◌, ◌-◌, ◌==◌, nat_lt, List, [], ◌∷◌, ◌++◌, codes, decimal, if◌then◌else◌}
use Rattle.l6_steps.specs.State.{Memory}
use Rattle.l6_word.specs.Lines.{lines_of}
use Rattle.l6_session.specs.Blocks.{draw_text}
use Rattle.l6_session.specs.Numerals.{most_drawn}

-- a line, if fewer came before it than are shown
abbrev pub drawn_line : ℕ → List ℕ → List ℕ
drawn_line count line = if nat_lt count most_drawn then line ++ codes "\n" else []

-- how many more lines there are, if there are
abbrev pub more_drawn : ℕ → List ℕ
more_drawn further = codes "and " ++ decimal further ++ codes " more lines: draw all shows them\n"

abbrev pub further_drawn : ℕ → List ℕ
further_drawn further = if further == 0 then [] else more_drawn further

-- the lines that are shown where so many came before them, and how many more there are
abbrev pub drawn_from : ℕ → List (List ℕ) → List ℕ
drawn_from count [] = further_drawn (count - most_drawn)
drawn_from count (line ∷ lines) = drawn_line count line ++ drawn_from (count + 1) lines

abbrev pub some_drawn : ℕ → Memory → List ℕ
some_drawn units memory = drawn_from 0 (lines_of (draw_text units memory))
