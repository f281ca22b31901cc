-- How the values above the leaves are made, from the last node to the first.
use Rattle.std.specs.Prelude.{◌≡◌, ℕ, suc, ◌+◌, ◌-◌, ◌*◌, ◌^◌, ◌≤◌, List, length, slice_index}
use Rattle.l6_places.specs.inner.Tree.{Node, joined}

pub record Builds (top : ℕ) (old new : List ℕ) (level node : ℕ) : Type 0 where
  pub count : length new ≡ length old
  pub small : level ≤ top
  pub whole : node ≤ 2 ^ top
  pub from : 2 ^ (top - level) ≤ node
  pub under : node ≤ 2 * 2 ^ (top - level)
  pub leaves : (at : ℕ) → 2 ^ top ≤ at → slice_index new at ≡ slice_index old at
  pub above : (l at : ℕ) → Node top (suc l) at → node ≤ at → slice_index new at
      ≡ joined (suc l) (slice_index new (2 * at)) (slice_index new (2 * at + 1))
