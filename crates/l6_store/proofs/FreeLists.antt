-- The free list of a level after a place was put in front of it, or taken out.
use Rattle.std.proofs.Common.{◌≡◌, ℕ, ◌^◌, ◌<◌, ◌≤◌, Bool, true, false, if◌then◌else◌, List, ◌∷◌, length, get_or, set, refl, ap, arith, inl, inr}
use Rattle.std.proofs.lemmas.List.{get_or-set_same}
use Rattle.std.proofs.lemmas.Bool.{eq-eqb}
use Rattle.l6_store.specs.Numerals.{place_bits}
use Rattle.l6_store.specs.Buddy.{has, without}
use Rattle.l6_store.specs.inner.Chains.{before_in, after_in, with_head, words_linked, words_unlinked}
use Rattle.l6_store.specs.inner.FreeLists.{IsFreeList}
use Rattle.l6_store.proofs.ListedPieces.{has_cases, has_without}
use Rattle.l6_store.proofs.Chains.{linked_front, length_words_linked}
use Rattle.l6_store.proofs.Unlinking.{unlinked, head_unlinked, length_words_unlinked}
use Rattle.l6_store.proofs.PlaceLists.{distinct_without}

module _ (words heads places : List ℕ) (level place : ℕ)
    (are : IsFreeList words heads level places) (small : length words ≤ 2 ^ place_bits)
    (room : level < length heads) where
  -- a place in front
  pub linked_list : 1 ≤ place → place < length words → has place places ≡ false →
      IsFreeList (words_linked words place (get_or heads level 0)) (set heads level place) level
      (place ∷ places)
  linked_list some below fresh = record {
    begun = get_or-set_same heads level place 0 room;
    linked = linked_front words places place (get_or heads level 0) are.distinct are.within small
        some below fresh are.begun are.linked;
    distinct = (fresh, are.distinct);
    within = λ at is.
        let count = length_words_linked words place (get_or heads level 0) in
        elim (has_cases at place places is) [
          | inl same ↦ (omega (arith, same, some), omega (arith, same, below, count))
          | inr there ↦ ((are.within at there).0, omega (arith, (are.within at there).1, count))
        ];
  }

  -- a place out of it
  pub unlinked_list : has place places ≡ true →
      IsFreeList (words_unlinked words place)
      (with_head heads level (before_in (get_or words place 0)) (after_in (get_or words place 0)))
      level (without place places)
  unlinked_list is = record {
    begun = head_unlinked words places heads level place is are.within small are.linked room are.begun;
    linked = unlinked words places place is are.distinct are.within small are.linked;
    distinct = distinct_without place places are.distinct;
    within = λ at there.
        let was = are.within at (has_without at place places there) in
        (was.0, omega (arith, was.1, length_words_unlinked words place));
  }

-- a list without its first place
pub without_first : (first : ℕ) (rest : List ℕ) → without first (first ∷ rest) ≡ rest
unfolding without
without_first first rest =
    ap (λ (b : Bool). if b then rest else first ∷ without first rest) (eq-eqb first first refl)
