-- What the calls of a trace do, one after another: a store by the buddy system, and the blocks that the
-- trace's names hold.
use Rattle.std.specs.Prelude.{◌≡◌, ℕ, ◌^◌, ◌<◌, ◌≤◌, List, replicate, slice_get, slice_set, Option, Some, None, refl}
use Rattle.std.specs.Coded.{Coded, code_by, coded×, coded_ℕ, coded_list, coded_option}
use Rattle.l6_word.specs.Numerals.{largest_level}
use Rattle.l6_store.specs.Blocks.{IsLive}
use Rattle.l6_store.specs.Buddy.{buddy_rule}
use Rattle.l6_store.specs.Store.{Store, store_code, after_free, after_get, fresh, picked}
use Rattle.l6_trace.specs.declared.call.Answer.{Answer}
use Rattle.l6_trace.specs.declared.call.Answer.TheVariants.{Given, Refused, Freed, Shown}
use Rattle.l6_trace.specs.declared.call.Call.{Call}
use Rattle.l6_trace.specs.declared.call.Call.TheVariants as calls

-- the store, and the place of the block that each name holds, if it holds one
pub record Tracing : Type 0 where
  pub store : Store
  pub held : List (Option ℕ)

abbrev pub tracing_code : Coded Tracing
tracing_code =
    code_by (Store × List (Option ℕ)) (coded× store_code (coded_list (coded_option coded_ℕ)))
    (λ t. (t.store, t.held)) (λ p. record { store = p.0; held = p.1 }) (λ _. refl)

-- an empty store, and names that hold nothing
abbrev pub empty : ℕ → ℕ → Tracing
empty units names = record { store = fresh buddy_rule units; held = replicate names None }

-- what a name holds: nothing where there is no such name
abbrev pub held_by : Option (Option ℕ) → Option ℕ
held_by (Some place) = place
held_by None = None

abbrev pub holder : Tracing → ℕ → Option ℕ
holder tracing block = held_by (slice_get tracing.held block)

-- the level of the least block that has so many words, or none where no block has so many
abbrev pub IsLevelFor : ℕ → Option ℕ → Type 0
IsLevelFor words (Some level) =
    (level ≤ largest_level) × (words ≤ 2 ^ level)
    × ((lower : ℕ) → lower < level → 2 ^ lower < words)
IsLevelFor words None = 2 ^ largest_level < words

-- the answer to a get for which the rule has a place, or has none, and what there is then
abbrev pub given : Tracing → ℕ → ℕ → Option ℕ → Answer
given old block level (Some place) =
    Given place level (after_get buddy_rule old.store level (Some place)).moves
given old block level None = Refused

abbrev pub after_given : Tracing → ℕ → ℕ → Option ℕ → Tracing
after_given old block level (Some place) = record {
  store = after_get buddy_rule old.store level (Some place);
  held = slice_set old.held block (Some place);
}
after_given old block level None = record old { store = after_get buddy_rule old.store level None }

-- a get of so many words, by a name that holds nothing: with the level of the least block that serves
abbrev pub IsGotBy : Tracing → ℕ → Option ℕ → Option Answer → Tracing → Type 0
IsGotBy old block (Some level) answer new =
    (answer ≡ Some (given old block level (picked buddy_rule old.store level)))
    × (new ≡ after_given old block level (picked buddy_rule old.store level))
IsGotBy old block None answer new = (answer ≡ Some Refused) × (new ≡ old)

-- a get, by what its name holds: `Some None` where there is the name and it holds nothing. Another one
-- may not get a block: then there is no answer, and nothing changes
abbrev pub IsGotFrom : Option (Option ℕ) → Tracing → ℕ → ℕ → Option Answer → Tracing → Type 0
IsGotFrom (Some None) old block words answer new =
    (level : Option ℕ) × IsLevelFor words level × IsGotBy old block level answer new
IsGotFrom (Some (Some place)) old block words answer new = (answer ≡ None) × (new ≡ old)
IsGotFrom None old block words answer new = (answer ≡ None) × (new ≡ old)

abbrev pub IsGot : Tracing → ℕ → ℕ → Option Answer → Tracing → Type 0
IsGot old block words answer new = IsGotFrom (slice_get old.held block) old block words answer new

-- a free of the block that a name holds
abbrev pub after_freed : Tracing → ℕ → ℕ → Tracing
after_freed old block place = record {
  store = after_free buddy_rule old.store place;
  held = slice_set old.held block None;
}

-- what is held is a block, and is freed; a name that holds none may not free one
abbrev pub IsFreedFrom : Option ℕ → Tracing → ℕ → Option Answer → Tracing → Type 0
IsFreedFrom (Some place) old block answer new =
    (IsLive old.store.blocks place →
    (answer ≡ Some (Freed (after_free buddy_rule old.store place).moves))
    × (new ≡ after_freed old block place))
    × ((IsLive old.store.blocks place → ⊥) → (answer ≡ None) × (new ≡ old))
IsFreedFrom None old block answer new = (answer ≡ None) × (new ≡ old)

abbrev pub IsFreed : Tracing → ℕ → Option Answer → Tracing → Type 0
IsFreed old block answer new = IsFreedFrom (holder old block) old block answer new

-- a call, its answer, and what there is then: nothing changes where something is shown
abbrev pub IsCalled : Tracing → Call → Option Answer → Tracing → Type 0
IsCalled old (calls.Get block words) answer new = IsGot old block words answer new
IsCalled old (calls.Free block) answer new = IsFreed old block answer new
IsCalled old calls.Lists answer new = (answer ≡ Some Shown) × (new ≡ old)
IsCalled old calls.Map answer new = (answer ≡ Some Shown) × (new ≡ old)
IsCalled old calls.Stats answer new = (answer ≡ Some Shown) × (new ≡ old)
