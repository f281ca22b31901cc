-- Rules of choice: which of the open places a block is given.
use Rattle.std.specs.Prelude.{ℕ, List}
use Rattle.l6_store.specs.Blocks.{Blocks}
use Rattle.l6_store.specs.Open.{Choice, FitsStore}

-- what a rule keeps beside the blocks: a list of places for each level, levels rising
abbrev pub Order : Type 0
Order = List (List ℕ)

-- each part is given the units, the blocks and the order before the call
pub record Rule : Type 0 where
  -- the order of a new store of so many units
  pub first : ℕ → Order
  -- for each level the place that a block of it is given
  pub pick : ℕ → Blocks → Order → Choice
  -- the order after a block of a level is got, and how often a piece of the store was halved for it
  pub order_got : ℕ → Blocks → Order → ℕ → Order
  pub moves_got : ℕ → Blocks → Order → ℕ → ℕ
  -- the order after the block at a place is freed, and how often two pieces were joined for it
  pub order_freed : ℕ → Blocks → Order → ℕ → Order
  pub moves_freed : ℕ → Blocks → Order → ℕ → ℕ

-- the rule's pick answers for the blocks of each level
abbrev pub Chooses : Rule → ℕ → Blocks → Order → Type 0
Chooses rule units blocks order = FitsStore units blocks (rule.pick units blocks order)
