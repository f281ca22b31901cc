use Rattle.std.proofs.Common.{take}
use Rattle.l6_trace.specs.Following.{Replays}
use Rattle.l6_trace.specs.Tracing.{empty}
use Rattle.l6_trace.proofs.trace.replayed.Given as goal

-- the lines before the index led here
abbrev pub invariant-loop-index : goal.invariant-loop-index
invariant-loop-index l = Replays (empty l.units l.names) (take l.index l.lines) l.tracer
