-- Which pieces are listed after one was put in front of its list, or taken out of it.
use Rattle.std.proofs.Common.{◌≡◌, ℕ, ◌+◌, ◌^◌, ◌<◌, ◌≤◌, Bool, true, ◌==◌, if◌then◌else◌, List, [], ◌∷◌, length, ap, sym, ◌∙◌, subst, arith, inl, inr, ◌⊎◌}
use Rattle.std.proofs.lemmas.Bool.{cases_eq, cases_Bool, eqb-true, or_cases}
use Rattle.std.proofs.lemmas.Nat.{pow_pos}
use Rattle.std.proofs.lemmas.List.{length-set}
use Rattle.l6_word.specs.Numerals.{largest_level}
use Rattle.l6_store.specs.Blocks.{IsAlignedPlace}
use Rattle.l6_store.specs.Rule.{Order}
use Rattle.l6_store.specs.Buddy.{has, without, listed, IsListed, in_front, taken_out, buddy_of}
use Rattle.l6_store.specs.inner.Detached.{ArePieces}
use Rattle.l6_store.proofs.Multiples.{buddy_of_lower, buddy_of_upper}
use Rattle.l6_store.proofs.Counts.{has_first, has_more, listed_same, listed_other}

pub has_cases : (place first : ℕ) (rest : List ℕ) → has place (first ∷ rest) ≡ true
    → (place ≡ first) ⊎ (has place rest ≡ true)
unfolding has
has_cases place first rest is =
    elim (or_cases (place == first) (has place rest) is)
    as (λ _. (place ≡ first) ⊎ (has place rest ≡ true)) [
      | inl same ↦ inl (eqb-true place first same)
      | inr later ↦ inr later
    ]

pub has_without : (place gone : ℕ) (places : List ℕ) → has place (without gone places) ≡ true
    → has place places ≡ true
unfolding without
has_without place gone [] is = is
has_without place gone (first ∷ rest) is =
    elim (cases_Bool (gone == first)) as (λ _. has place (first ∷ rest) ≡ true) [
      | inl same ↦
          has_more place first rest
          (subst (λ (b : Bool). has place (if b then rest else first ∷ without gone rest) ≡ true)
          same is)
      | inr other ↦
          elim (has_cases place first (without gone rest)
          (subst (λ (b : Bool). has place (if b then rest else first ∷ without gone rest) ≡ true)
          other is)) as (λ _. has place (first ∷ rest) ≡ true) [
            | inl here ↦ ap (λ (p : ℕ). has p (first ∷ rest)) here ∙ has_first first rest
            | inr later ↦ has_more place first rest (has_without place gone rest later)
          ]
    ]

-- after a piece was put in front
pub data InFront (order : Order) (level place k p : ℕ) : Type 0 where
  the_one : k ≡ level → p ≡ place → InFront order level place k p
  another : IsListed order k p → InFront order level place k p

pub in_front_listed : (order : Order) (level place k p : ℕ) → level < length order
    → IsListed (in_front order level place) k p → InFront order level place k p
in_front_listed order level place k p room is =
    elim (cases_eq k level) as (λ _. InFront order level place k p) [
      | inl same ↦
          let lists : listed (in_front order level place) k ≡ place ∷ listed order level
          = ap (listed (in_front order level place)) same
          ∙ listed_same order level (place ∷ listed order level) room in
          elim (has_cases p place (listed order level) (ap (has p) (sym lists) ∙ is))
          as (λ _. InFront order level place k p) [
            | inl here ↦ the_one same here
            | inr later ↦ another (ap (λ (j : ℕ). has p (listed order j)) same ∙ later)
          ]
      | inr other ↦
          another (ap (has p) (sym (listed_other order level k (place ∷ listed order level) other))
          ∙ is)
    ]

pub taken_out_listed : (order : Order) (level place k p : ℕ) → level < length order
    → IsListed (taken_out order level place) k p → IsListed order k p
taken_out_listed order level place k p room is =
    elim (cases_eq k level) as (λ _. IsListed order k p) [
      | inl same ↦
          let lists : listed (taken_out order level place) k ≡ without place (listed order level)
          = ap (listed (taken_out order level place)) same
          ∙ listed_same order level (without place (listed order level)) room in
          ap (λ (j : ℕ). has p (listed order j)) same
          ∙ has_without p place (listed order level) (ap (has p) (sym lists) ∙ is)
      | inr other ↦
          ap (has p) (sym (listed_other order level k (without place (listed order level)) other))
          ∙ is
    ]

pub pieces_taken : (units : ℕ) (order : Order) (level place : ℕ) → level ≤ largest_level
    → ArePieces units order → ArePieces units (taken_out order level place)
pieces_taken units order level place small pieces =
    let room : level < length order = omega (arith, pieces.lists) in
    record {
      lists = length-set order level (without place (listed order level)) ∙ pieces.lists;
      is_aligned = λ k p is. pieces.is_aligned k p (taken_out_listed order level place k p room is);
      whole = λ k p less lower is is_buddy. pieces.whole k p less lower
          (taken_out_listed order level place k p room is)
          (taken_out_listed order level place k (p + 2 ^ k) room is_buddy);
    }

pub pieces_in_front : (units : ℕ) (order : Order) (level place : ℕ) → ArePieces units order
    → IsAlignedPlace units level place
    → (level < largest_level → IsListed order level (buddy_of level place) → ⊥)
    → ArePieces units (in_front order level place)
pieces_in_front units order level place pieces is_aligned alone =
    let room : level < length order = omega (arith, pieces.lists, is_aligned.small) in
    record {
      lists = length-set order level (place ∷ listed order level) ∙ pieces.lists;
      is_aligned = λ k p is.
          elim (in_front_listed order level place k p room is) as (λ _. IsAlignedPlace units k p) [
            | the_one same here ↦
                subst (λ (j : ℕ). IsAlignedPlace units j p) (sym same)
                (subst (λ (q : ℕ). IsAlignedPlace units level q) (sym here) is_aligned)
            | another was ↦ pieces.is_aligned k p was
          ];
      whole = λ k p less lower is is_buddy.
          elim (in_front_listed order level place k p room is) as (λ _. ⊥) [
            | the_one same here ↦
                elim (in_front_listed order level place k (p + 2 ^ k) room is_buddy) as (λ _. ⊥) [
                  | the_one again there ↦ omega (arith, pow_pos k)
                  | another was ↦
                      alone (omega arith)
                      (subst (λ (j : ℕ). IsListed order j (buddy_of j place)) same
                      (ap (λ (q : ℕ). has q (listed order k))
                      (ap (buddy_of k) (sym here) ∙ buddy_of_lower k p lower) ∙ was))
                ]
            | another was ↦
                elim (in_front_listed order level place k (p + 2 ^ k) room is_buddy) as (λ _. ⊥) [
                  | the_one again there ↦
                      alone (omega arith)
                      (subst (λ (j : ℕ). IsListed order j (buddy_of j place)) again
                      (ap (λ (q : ℕ). has q (listed order k))
                      (ap (buddy_of k) (sym there) ∙ buddy_of_upper k p lower) ∙ was))
                  | another too ↦ pieces.whole k p less lower was too
                ]
          ];
    }
