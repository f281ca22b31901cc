-- The end of a trace: its last line says how many gets and frees it has.
use Rattle.std.specs.Prelude.{ℕ, ◌+◌, ◌==◌, nat_lt, if◌then◌else◌, List, [], ◌∷◌, length, Option, Some, None}
use Rattle.l6_trace.specs.declared.call.Call.{Call}
use Rattle.l6_trace.specs.declared.call.Call.TheVariants.{Get, Free, Lists, Map, Stats}
use Rattle.l6_trace.specs.declared.call.Line.{Line}
use Rattle.l6_trace.specs.declared.ending.End.{End}
use Rattle.l6_trace.specs.declared.ending.Ending.{Ending}
use Rattle.l6_trace.specs.declared.ending.Ending.TheVariants.{Empty, Missing, Right, Wrong, NotLast}

-- a call that changes the store, and so has an answer to compare
abbrev pub answers_of : Call → ℕ
answers_of (Get block words) = 1
answers_of (Free block) = 1
answers_of Lists = 0
answers_of Map = 0
answers_of Stats = 0

abbrev pub answers_in : List Line → ℕ
answers_in [] = 0
answers_in (line ∷ lines) = answers_in lines + answers_of line.call

-- what is known of the end of a trace with these calls: it has no get and no free; or the line `end` is missing, or
-- calls follow it, or it tells the right number of gets and frees or another one
abbrev pub known_end : List Line → ℕ → Option End → Ending
known_end lines answers None = Missing
known_end lines answers (Some end) =
    if nat_lt end.calls (length lines) then NotLast
    else if end.answers == answers then Right else Wrong answers

abbrev pub ending_of : List Line → Option End → Ending
ending_of lines end =
    if answers_in lines == 0 then Empty else known_end lines (answers_in lines) end

-- each ending but the right one is a finding
abbrev pub ending_findings : Ending → ℕ
ending_findings Right = 0
ending_findings Empty = 1
ending_findings Missing = 1
ending_findings (Wrong answers) = 1
ending_findings NotLast = 1
