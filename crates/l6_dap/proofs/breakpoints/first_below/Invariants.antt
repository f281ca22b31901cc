use Rattle.std.proofs.Common.{◌≡◌, drop}
use Rattle.l6_dap.specs.Breakpoints.{first_below}
use Rattle.l6_dap.proofs.breakpoints.first_below.Given as goal

abbrev pub invariant-loop-index : goal.invariant-loop-index
invariant-loop-index l =
    first_below l.index l.line (drop l.index l.first_cards) ≡ first_below 0 l.line l.first_cards
