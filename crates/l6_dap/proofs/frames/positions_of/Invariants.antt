use Rattle.std.proofs.Common.{◌≡◌, ◌++◌, length, map, reverse}
use Rattle.l6_dap.specs.Frames.{positions_of}
use Rattle.l6_dap.proofs.frames.positions_of.Given as goal

abbrev pub invariant-loop-waiting : goal.invariant-loop-waiting
invariant-loop-waiting l =
    l.list.items ++ map (λ waiting. waiting.at) (reverse l.rest)
    ≡ positions_of l.machine.configuration.state

abbrev pub decreases-loop-waiting : goal.decreases-loop-waiting
decreases-loop-waiting l = length l.rest
