use Rattle.std.proofs.Common.{take}
use Rattle.l6_trace.specs.Following.{Leads}
use Rattle.l6_trace.proofs.following.follow.Given as goal

-- the lines before the index led here
abbrev pub invariant-loop-index : goal.invariant-loop-index
invariant-loop-index l = Leads l.fn.tracer (take l.index l.lines) l.tracer
