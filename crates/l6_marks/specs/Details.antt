-- The details of a state: the cards of its statement, with the action marked, and why it has trapped.
use Rattle.std.specs.Prelude.{ℕ, List, [], ◌++◌, length, Option, Some}
use Rattle.l6_word.specs.Lines.{lines_of}
use Rattle.l6_prog.specs.Statement.{Parts}
use Rattle.l6_steps.specs.declared.halt.Halt.{Halt}
use Rattle.l6_steps.specs.declared.halt.Halt.TheVariants.{Trap}
use Rattle.l6_steps.specs.declared.position.Position.{Position}
use Rattle.l6_marks.specs.Cards.{added_text}
use Rattle.l6_marks.specs.Marks.{ahead_of, marked_from}
use Rattle.l6_marks.specs.Reasons.{reason_line}

-- why a run has ended, if it was by a trap
abbrev pub why_text : Option Halt → List ℕ
why_text (Some (Trap trap)) = reason_line trap
why_text other = []

-- the details of a position in a deck that spells a program, where the run has ended so, or has not
abbrev pub details_text : List ℕ → List Parts → Position → Option Halt → List ℕ
details_text deck program at ending =
    marked_from at.statement (ahead_of program at) 0 0 (lines_of deck)
    ++ added_text (length program) at.statement
    ++ why_text ending

-- the details of a trap, and nothing of another ending
abbrev pub explanation : List ℕ → List Parts → Position → Option Halt → List ℕ
explanation deck program at (Some (Trap trap)) = details_text deck program at (Some (Trap trap))
explanation deck program at other = []
