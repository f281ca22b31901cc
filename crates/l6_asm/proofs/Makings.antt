-- What is made of each of a list, one after another.
use Rattle.std.proofs.Common.{◌≡◌, ℕ, List, [], ◌∷◌, ◌++◌, length, Bool, true, Option, Some, None, IfSome, Result, Ok, Err, refl, sym, ap, ◌∙◌, subst}
use Prim.Native.Nat.{suc}
use Rattle.std.specs.List.{list_all}
use Rattle.std.proofs.lemmas.Bool.{and_from, and_parts}
use Rattle.std.specs.Vec.Iter.{into_iter_items, into_iter_steps}
use Rattle.std.specs.declared.vec.IntoIter.{IntoIter}
use Rattle.std.specs.Iterator.{Yields}
use Rattle.l6_asm.specs.AssemblyFault.{AssemblyFault}
use Rattle.l6_asm.specs.Resolution.{onto_made, each_made}

-- what the iterator of a vector has given is a front of its items
pub taken_front : {X A : Type 0} (s : IntoIter X A) (xs : List X) (t : IntoIter X A) →
    Yields into_iter_steps s xs t → into_iter_items s ≡ xs ++ into_iter_items t
taken_front s [] t y = ap into_iter_items y
taken_front s (x ∷ xs) t y = y.1.0 ∙ ap (λ ys. x ∷ ys) (taken_front y.0 xs t y.2)

-- one and others that were made
pub record BothMade {B : Type 0} (one : Result B AssemblyFault)
    (others : Result (List B) AssemblyFault) (done : List B) : Type 0 where
  pub first : B
  pub rest : List B
  pub first_is : one ≡ Ok first
  pub rest_is : others ≡ Ok rest
  pub whole : first ∷ rest ≡ done

pub both_made : {B : Type 0} (one : Result B AssemblyFault) (others : Result (List B) AssemblyFault)
    (done : List B) →
    onto_made one others ≡ Ok done → BothMade one others done
both_made (Err fault) others done made = absurd (cc)
both_made (Ok one) (Err fault) done made = absurd (cc)
both_made (Ok one) (Ok others) done made =
    record { first = one; rest = others; first_is = refl; rest_is = refl; whole = cc }

module _ {A B : Type 0} (make : A → Result B AssemblyFault) where
  -- what is made of one more
  pub each_made-push : (front : List A) (x : A) (done : List B) (one : B) →
      each_made make front ≡ Ok done → make x ≡ Ok one →
      each_made make (front ++ x ∷ []) ≡ Ok (done ++ one ∷ [])
  each_made-push [] x done one made own =
      let none : [] ≡ done = cc in
      subst (λ (d : List B). onto_made (make x) (Ok []) ≡ Ok (d ++ one ∷ [])) none
      (ap (λ r. onto_made r (Ok [])) own)
  each_made-push (y ∷ front) x done one made own =
      let parts = both_made (make y) (each_made make front) done made in
      ap (λ r. onto_made r (each_made make (front ++ x ∷ []))) parts.first_is
      ∙ ap (onto_made (Ok parts.first)) (each_made-push front x parts.rest one parts.rest_is own)
      ∙ ap (λ (d : List B). Ok (d ++ one ∷ [])) parts.whole

  -- the first fault stops the rest
  pub each_made-stops : (front : List A) (x : A) (rest : List A) (done : List B)
      (fault : AssemblyFault) →
      each_made make front ≡ Ok done → make x ≡ Err fault →
      each_made make (front ++ x ∷ rest) ≡ Err fault
  each_made-stops [] x rest done fault made own = ap (λ r. onto_made r (each_made make rest)) own
  each_made-stops (y ∷ front) x rest done fault made own =
      let parts = both_made (make y) (each_made make front) done made in
      ap (λ r. onto_made r (each_made make (front ++ x ∷ rest))) parts.first_is
      ∙ ap (onto_made (Ok parts.first))
      (each_made-stops front x rest parts.rest fault parts.rest_is own)

  -- a fault that one met, if it is one of the deck, is that of all
  pub stops_at : (items front : List A) (x : A) (rest : List A) (done : List B)
      (found : Option AssemblyFault) →
      items ≡ front ++ x ∷ rest → each_made make front ≡ Ok done →
      IfSome found (λ f. make x ≡ Err f) → IfSome found (λ f. each_made make items ≡ Err f)
  stops_at items front x rest done None whole made own = tt
  stops_at items front x rest done (Some fault) whole made own =
      ap (each_made make) whole ∙ each_made-stops front x rest done fault made own

  -- as many are made as there are
  pub each_made-length : (xs : List A) (ys : List B) → each_made make xs ≡ Ok ys →
      length ys ≡ length xs
  each_made-length [] ys made =
      let none : [] ≡ ys = cc in
      ap length (sym none)
  each_made-length (x ∷ xs) ys made =
      let parts = both_made (make x) (each_made make xs) ys made in
      ap length (sym parts.whole)
      ∙ ap (λ (n : ℕ). suc n) (each_made-length xs parts.rest parts.rest_is)

  -- each that is made passes a test, where what is made of those that pass another does
  pub all_made : (p : A → Bool) (q : B → Bool) →
      ((x : A) (y : B) → p x ≡ true → make x ≡ Ok y → q y ≡ true) →
      (xs : List A) (ys : List B) → list_all p xs ≡ true → each_made make xs ≡ Ok ys →
      list_all q ys ≡ true
  all_made p q each [] ys all made =
      let none : [] ≡ ys = cc in
      ap (list_all q) (sym none)
  all_made p q each (x ∷ xs) ys all made =
      let parts = both_made (make x) (each_made make xs) ys made in
      let passed = and_parts (p x) (list_all p xs) all in
      ap (list_all q) (sym parts.whole)
      ∙ and_from (q parts.first) (list_all q parts.rest)
      (each x parts.first passed.0 parts.first_is)
      (all_made p q each xs parts.rest passed.1 parts.rest_is)
