-- What a run prints.
use Rattle.std.specs.Prelude.{ℕ, ◌-◌, ◌==◌, Bool, false, not, length, slice_get, List, [], ◌++◌, codes, decimal, Option, None, Some, if◌then◌else◌}
use Rattle.std.specs.Str.{byte}
use Rattle.l6_steps.specs.declared.halt.Halt.{Halt}
use Rattle.l6_steps.specs.declared.halt.Halt.TheVariants as halts
use Rattle.l6_steps.specs.declared.position.Position.{Position}
use Rattle.l6_steps.specs.State.{State}
use Rattle.l6_steps.specs.Trap.{trap_number, trap_name}
use Rattle.l6_machine.specs.declared.ending.Ending.{Ending}
use Rattle.l6_machine.specs.declared.ending.Ending.TheVariants.{Done, Fail, Trap, Limit}

-- how a last state has ended: one that has not is at its limit of steps
abbrev pub ending_of : Option Halt → Ending
ending_of None = Limit
ending_of (Some halts.Done) = Done
ending_of (Some halts.Fail) = Fail
ending_of (Some (halts.Trap trap)) = Trap trap

-- the text of an ending; a trap says where the run is
abbrev pub ending_text : Ending → Position → List ℕ
ending_text Done at = codes "DONE"
ending_text Fail at = codes "FAIL"
ending_text (Trap trap) at =
    codes "TRAP " ++ decimal (trap_number trap) ++ codes " " ++ trap_name trap
    ++ codes " AT " ++ decimal at.statement ++ codes "." ++ decimal at.action
ending_text Limit at = codes "LIMIT"

-- the line that says how a run has ended
abbrev pub ending_line : State → List ℕ
ending_line final =
    codes "== " ++ ending_text (ending_of final.ending) final.at
    ++ codes " AFTER " ++ decimal final.count ++ codes " STEPS"

-- the last byte of a text is no line feed
abbrev pub lacks_line_feed : Option ℕ → Bool
lacks_line_feed None = false
lacks_line_feed (Some last) = not (last == byte "\n")

-- the line feed that a text lacks: none where it is empty or ends in one
abbrev pub missing_line_feed : List ℕ → List ℕ
missing_line_feed text =
    if lacks_line_feed (slice_get text (length text - 1)) then codes "\n" else []

-- the printout of a last state: its output in whole lines, and then how the run has ended
abbrev pub printout : State → List ℕ
printout final =
    final.memory.output ++ missing_line_feed final.memory.output ++ ending_line final ++ codes "\n"
