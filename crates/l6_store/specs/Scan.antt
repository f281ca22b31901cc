-- The plain rule of choice: the lowest open place.
use Rattle.std.specs.Prelude.{ℕ, zero, suc, ◌+◌, ◌%◌, ◌^◌, max, Bool, true, ◌&&◌, ◌==◌, nat_le, List, [], length, Option, Some, None}
use Rattle.std.specs.FinMap as map
use Rattle.l6_word.specs.Numerals.{unit_size}
use Rattle.l6_store.specs.Blocks.{Blocks, end_of}
use Rattle.l6_store.specs.Rule.{Rule}
use Rattle.l6_store.specs.Least.{least}

-- whether a block, if one begins there, leaves each place from the given one on free
abbrev pub leaves : ℕ → ℕ → Option (List ℕ) → Bool
leaves place start None = true
leaves place start (Some words) = nat_le (start + length words) (max place start)

-- whether the numbers below a bound all pass a test
unfoldable pub all_below : ℕ → (ℕ → Bool) → Bool
all_below zero test = true
all_below (suc bound) test = test bound && all_below bound test

-- whether so many words from a place on are open
unfoldable pub is_open : ℕ → Blocks → ℕ → ℕ → Bool
is_open units blocks size place =
    place % size == 0 && nat_le unit_size place && nat_le (place + size) (end_of units)
    && all_below (place + size) (λ start. leaves place start (map.get blocks start))

-- the rule keeps no order, and never halves or joins
abbrev pub scan_rule : Rule
scan_rule = record {
  first = λ _. [];
  pick = λ units blocks _ level. least (end_of units) (is_open units blocks (2 ^ level));
  order_got = λ _ _ _ _. [];
  moves_got = λ _ _ _ _. 0;
  order_freed = λ _ _ _ _. [];
  moves_freed = λ _ _ _ _. 0;
}
