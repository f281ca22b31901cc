-- A store by the buddy system: the store, and the words and heads that hold its free lists.
use Rattle.std.specs.Prelude.{ℕ, List, refl}
use Rattle.std.specs.Coded.{Coded, code_by, coded×, coded_ℕ, coded_list}
use Rattle.l6_store.specs.Store.{Store, store_code}

pub record BuddyStore : Type 0 where
  pub store : Store
  -- the word at each place
  pub words : List ℕ
  -- for each level the first place of its list, 0 where it is empty
  pub heads : List ℕ

abbrev pub buddy_code : Coded BuddyStore
buddy_code =
    code_by (Store × (List ℕ × List ℕ))
    (coded× store_code (coded× (coded_list coded_ℕ) (coded_list coded_ℕ)))
    (λ b. (b.store, (b.words, b.heads)))
    (λ p. record { store = p.0; words = p.1.0; heads = p.1.1 })
    (λ _. refl)
