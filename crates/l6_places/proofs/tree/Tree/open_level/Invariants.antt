use Rattle.std.proofs.Common.{ℕ, ◌<◌, ◌≤◌, ◌^◌}
use Rattle.l6_places.specs.Board.{IsOpen, piece_start}
use Rattle.l6_places.specs.inner.View.{board_of}
use Rattle.l6_places.proofs.tree.Tree.open_level.Given as goal

-- no larger piece is open
abbrev pub invariant-loop-level : goal.invariant-loop-level
invariant-loop-level l =
    (upper : ℕ) → l.level < upper → upper ≤ l.limit
    → IsOpen (board_of l.self) (2 ^ upper) (piece_start upper l.place) → ⊥
