-- Stores: what one is, and what becomes of it.
use Rattle.std.specs.Prelude.{ℕ, ◌^◌, ◌≤◌, List, replicate, Option, Some, None, refl}
use Rattle.std.specs.Coded.{Coded, code_by, coded×, coded_ℕ, coded_list}
use Rattle.std.specs.FinMap as map
use Rattle.l6_store.specs.Numerals.{most_units}
use Rattle.l6_store.specs.Blocks.{Blocks, blocks_code, Fits}
use Rattle.l6_store.specs.Rule.{Order, Rule, Chooses}

-- how many units, the blocks, the order that the rule of choice keeps, and how often the last get
-- or free halved or joined pieces
pub record Store : Type 0 where
  pub units : ℕ
  pub blocks : Blocks
  pub order : Order
  pub moves : ℕ

abbrev pub store_code : Coded Store
store_code =
    code_by (ℕ × (Blocks × (Order × ℕ)))
    (coded× coded_ℕ (coded× blocks_code (coded× (coded_list (coded_list coded_ℕ)) coded_ℕ)))
    (λ s. (s.units, (s.blocks, (s.order, s.moves))))
    (λ p. record { units = p.0; blocks = p.1.0; order = p.1.1.0; moves = p.1.1.1 })
    (λ _. refl)

-- what is true of each store under a rule: it has as many units as a store may have, its blocks
-- fit, and the rule's pick answers for them
pub record IsSound (rule : Rule) (store : Store) : Type 0 where
  pub some : 1 ≤ store.units
  pub most : store.units ≤ most_units
  pub fits : Fits store.units store.blocks
  pub chooses : Chooses rule store.units store.blocks store.order

-- a new store has no blocks
abbrev pub fresh : Rule → ℕ → Store
fresh rule units = record { units = units; blocks = map.empty; order = rule.first units; moves = 0 }

-- the place that a get of a level is given, if any
abbrev pub picked : Rule → Store → ℕ → Option ℕ
picked rule store level = rule.pick store.units store.blocks store.order level

-- the store with these words in the block at a place
abbrev pub with_block : Store → ℕ → List ℕ → Store
with_block store place words = record store { blocks = map.insert store.blocks place words }

-- after a get of a level that had this answer: there is a block of zeros at the place given, or
-- nothing has changed
abbrev pub after_get : Rule → Store → ℕ → Option ℕ → Store
after_get rule store level (Some place) = record {
  units = store.units;
  blocks = map.insert store.blocks place (replicate (2 ^ level) 0);
  order = rule.order_got store.units store.blocks store.order level;
  moves = rule.moves_got store.units store.blocks store.order level;
}
after_get rule store level None = record store { moves = 0 }

-- after a free of the block at a place: that block is gone
abbrev pub after_free : Rule → Store → ℕ → Store
after_free rule store place = record {
  units = store.units;
  blocks = map.remove store.blocks place;
  order = rule.order_freed store.units store.blocks store.order place;
  moves = rule.moves_freed store.units store.blocks store.order place;
}
