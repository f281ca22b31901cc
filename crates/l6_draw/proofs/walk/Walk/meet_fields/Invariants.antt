use Rattle.std.proofs.Common.{◌≡◌, drop}
use Rattle.l6_draw.proofs.Meeting.{fields_met}
use Rattle.l6_draw.proofs.walk.Walk.meet_fields.Given as goal

-- the walk so far, with what the fields left hold, is that with what all fields hold
abbrev pub invariant-loop-field : goal.invariant-loop-field
invariant-loop-field g l =
    fields_met l.machine.configuration.state.memory l.words (drop l.field-index l.field-items) l.self
    ≡ fields_met l.machine.configuration.state.memory l.words l.field-items l.fn.self
