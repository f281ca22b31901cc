use Rattle.std.proofs.Common.{◌≡◌, take}
use Rattle.std.specs.Prelude.{MatchOption, slice_get, Some}
use Rattle.l6_history.specs.History.{greatest_up_to}
use Rattle.l6_history.specs.inner.Ring.{numbers_of}
use Rattle.l6_history.proofs.ring.Ring.nearest.Given as goal

-- the greatest so far, and where it is kept
abbrev pub invariant-loop-index : goal.invariant-loop-index
invariant-loop-index g l = record {
  most : l.greatest ≡ greatest_up_to l.number (take l.index (numbers_of l.self.numbered_machines));
  at : MatchOption l.nearest (l.greatest ≡ 0)
      (λ index. slice_get (numbers_of l.self.numbered_machines) index ≡ Some l.greatest);
}
