use Rattle.std.proofs.Common.{ℕ, ◌*◌, ◌/◌, ◌^◌, ◌<◌, ◌≤◌}
use Rattle.l6_places.specs.Board.{Begins}
use Rattle.l6_places.proofs.tree.Tree.cover.Given as goal

abbrev pub invariant-loop-upper : goal.invariant-loop-upper
invariant-loop-upper l =
    (k : ℕ) → l.level ≤ k → k < l.upper → Begins l.self.marks.items (l.place / 2 ^ k * 2 ^ k) k → ⊥
