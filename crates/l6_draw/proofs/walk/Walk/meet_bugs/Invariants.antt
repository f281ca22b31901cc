use Rattle.std.proofs.Common.{◌≡◌}
use Rattle.l6_prog.specs.Numerals.{first_letter}
use Rattle.l6_draw.proofs.Meeting.{bugs_met}
use Rattle.l6_draw.proofs.walk.Walk.meet_bugs.Given as goal

-- the walk so far, with what the bugs left hold, is that with what all bugs hold
abbrev pub invariant-loop-letter : goal.invariant-loop-letter
invariant-loop-letter g l =
    bugs_met l.machine.configuration.state.memory l.letter l.self
    ≡ bugs_met l.machine.configuration.state.memory first_letter l.fn.self
