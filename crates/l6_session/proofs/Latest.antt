-- The latest of some elements.
use Rattle.std.proofs.Common.{◌≡◌, ℕ, ◌-◌, ◌++◌, List, drop, length, reverse, take, sym, ap, ◌∙◌, arith, inl, inr}
use Rattle.std.proofs.Math.Seq.{take-append_seam}
use Rattle.std.proofs.lemmas.Bool.{cases_lt}
use Rattle.std.proofs.lemmas.List.{length-drop, length-reverse, reverse-append, take-append-drop, take_all}

-- the first of the reversed list are the last of the list
latest_are : {X : Type 0} (k m : ℕ) (list : List X) → m ≡ length list - k →
    take k (reverse list) ≡ reverse (drop m list)
latest_are k m list is = elim (cases_lt k (length list)) as (λ _. take k (reverse list) ≡ reverse (drop m list)) [
  | inl fewer ↦
      (let front = reverse (drop m list) in
      let back = reverse (take m list) in
      let size : length front ≡ k =
      omega (arith, length-reverse (drop m list), length-drop m list, is, fewer) in
      ap (take k)
      (ap reverse (sym (take-append-drop m list)) ∙ reverse-append (take m list) (drop m list))
      ∙ ap (λ n. take n (front ++ back)) (sym size)
      ∙ take-append_seam front back)
  | inr all ↦
      (let none : m ≡ 0 = omega (arith, is, all) in
      take_all k (reverse list) (omega (arith, all, length-reverse list))
      ∙ ap (λ n. reverse (drop n list)) (sym none))
]

pub latest_of : {X : Type 0} (k m : ℕ) (list : List X) → m ≡ length list - k →
    reverse (take (length list - m) (drop m list)) ≡ take k (reverse list)
latest_of k m list is =
    ap reverse (take_all (length list - m) (drop m list) (omega (arith, length-drop m list)))
    ∙ sym (latest_are k m list is)
