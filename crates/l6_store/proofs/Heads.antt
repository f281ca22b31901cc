-- What the head of a list says: it is 0 where the list is empty, and else its first place.
use Rattle.std.proofs.Common.{◌≡◌, ℕ, true, List, [], ◌∷◌, length, get_or, Some, None, refl, ap, sym, ◌∙◌, arith}
use Rattle.std.specs.Option.{is_some}
use Rattle.l6_store.specs.Buddy.{first_of, first_or, listed}
use Rattle.l6_store.specs.inner.ArenaLayout.{ArenaLayout, IsArena, layout_of}
use Rattle.l6_store.specs.inner.Chains.{order_of}
use Rattle.l6_store.specs.declared.place_tag.PlaceTag.{PlaceTag}
use Rattle.l6_store.proofs.Arenas.{within}
use Rattle.l6_store.proofs.Counts.{has_first}
use Rattle.l6_store.proofs.PlaceLists.{AreWithin}

pub none_first : (bound : ℕ) (places : List ℕ) → AreWithin bound places → first_or places 0 ≡ 0
    → first_of places ≡ None
none_first bound [] are none = refl
none_first bound (first ∷ rest) are none =
    absurd (omega (arith, (are first (has_first first rest)).0))

pub some_first : (places : List ℕ) → (first_or places 0 ≡ 0 → ⊥)
    → Some (first_or places 0) ≡ first_of places
some_first [] some = absurd (some refl)
some_first (first ∷ rest) some = refl

module _ (units : ℕ) (words heads : List ℕ) (place_tags : List PlaceTag)
    (laid : IsArena units words place_tags heads) (now : ArenaLayout)
    (is : layout_of units words place_tags heads ≡ now) (level : ℕ) where
  pub head_none : get_or heads level 0 ≡ 0 → first_of (listed now.order level) ≡ None
  head_none none =
      ap (λ (l : ArenaLayout). first_of (listed l.order level)) (sym is)
      ∙ none_first (length words) (listed (order_of words heads) level)
      (within units words heads place_tags laid level)
      (omega (arith, laid.are_lists.links.begun level, none))

  pub head_some : (get_or heads level 0 ≡ 0 → ⊥) → is_some (first_of (listed now.order level)) ≡ true
  head_some some =
      ap (λ (l : ArenaLayout). is_some (first_of (listed l.order level))) (sym is)
      ∙ ap is_some (sym (some_first (listed (order_of words heads) level)
      (λ none. some (omega (arith, laid.are_lists.links.begun level, none)))))

-- the head of an empty list
pub head_alone : (units : ℕ) (words heads : List ℕ) (place_tags : List PlaceTag)
    → IsArena units words place_tags heads → (level : ℕ)
    → listed (order_of words heads) level ≡ [] → get_or heads level 0 ≡ 0
head_alone units words heads place_tags laid level none =
    laid.are_lists.links.begun level ∙ ap (λ (places : List ℕ). first_or places 0) none
