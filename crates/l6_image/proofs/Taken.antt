-- Names and codes that are taken from words, one after another.
use Rattle.std.proofs.Common.{◌≡◌, ℕ, ◌+◌, ◌*◌, ◌<◌, ◌≤◌, List, [], ◌∷◌, ◌++◌, length, get_or, take, drop, Bool, true, false, refl, ap, sym, ◌∙◌, arith, append_assoc, append-nil, add-one, drop-cons, length-append}
use Rattle.std.specs.List.{flat_map, take_while}
use Rattle.std.proofs.Math.ListN.{drop_of_length-le}
use Rattle.std.proofs.lemmas.Grind.{flat_map-append}
use Rattle.std.proofs.lemmas.List.{take_all, take-append-le, length-take, take-append-drop}
use Rattle.std.proofs.lemmas.List.Sums.{take_while-cons}
use Rattle.std.proofs.lemmas.List.Concat.{flat_map-cons}
use Rattle.l6_prog.specs.Numerals.{most_characters}
use Rattle.l6_image.specs.inner.decode.Fields.{items_in}

-- what is taken from a list that begins with one that passes, or fails
pub take_while_passes : {A : Type 0} (p : A → Bool) (x : A) (xs : List A) → p x ≡ true →
    take_while p (x ∷ xs) ≡ x ∷ take_while p xs
take_while_passes p x xs passes = take_while-cons p x xs ∙ rw passes refl

pub take_while_fails : {A : Type 0} (p : A → Bool) (x : A) (xs : List A) → p x ≡ false →
    take_while p (x ∷ xs) ≡ []
take_while_fails p x xs fails = take_while-cons p x xs ∙ rw fails refl

module _ (p : ℕ → Bool) (front items : List ℕ) (place : ℕ) where
  -- one more passes
  pub front-more : (x : ℕ) → place < length items → x ≡ get_or items place 0 → p x ≡ true →
      front ++ take_while p (drop place items) ≡ take_while p items →
      (front ++ x ∷ []) ++ take_while p (drop (place + 1) items) ≡ take_while p items
  front-more x within is passes so_far =
      let rest : drop place items ≡ x ∷ drop (place + 1) items =
      rw (drop-cons items place 0, add-one, ← is) refl in
      append_assoc front (x ∷ []) (take_while p (drop (place + 1) items))
      ∙ ap (λ (ys : List ℕ). front ++ ys)
      (sym (ap (take_while p) rest ∙ take_while_passes p x (drop (place + 1) items) passes))
      ∙ so_far

  -- the next one fails
  pub front-stops : (x : ℕ) → place < length items → x ≡ get_or items place 0 → p x ≡ false →
      front ++ take_while p (drop place items) ≡ take_while p items → front ≡ take_while p items
  front-stops x within is fails so_far =
      let rest : drop place items ≡ x ∷ drop (place + 1) items =
      rw (drop-cons items place 0, add-one, ← is) refl in
      sym (append-nil front)
      ∙ ap (λ (ys : List ℕ). front ++ ys)
      (sym (ap (take_while p) rest ∙ take_while_fails p x (drop (place + 1) items) fails))
      ∙ so_far

  -- none is left
  pub front-ends : length items ≤ place →
      front ++ take_while p (drop place items) ≡ take_while p items → front ≡ take_while p items
  front-ends past so_far =
      sym (append-nil front)
      ∙ ap (λ (ys : List ℕ). front ++ take_while p ys) (sym (drop_of_length-le items past))
      ∙ so_far

-- each word has six items
length_items : (words : List ℕ) → length (flat_map items_in words) ≡ 6 * length words
length_items [] = omega arith
length_items (word ∷ words) =
    ap length (flat_map-cons items_in word words)
    ∙ length-append (items_in word) (flat_map items_in words)
    ∙ omega (arith, length_items words)

-- the items of some words are a front of those of all
items_split : (words : List ℕ) (place : ℕ) →
    flat_map items_in words
    ≡ flat_map items_in (take place words) ++ flat_map items_in (drop place words)
items_split words place =
    ap (flat_map items_in) (sym (take-append-drop place words))
    ∙ flat_map-append items_in (take place words) (drop place words)

-- there is no room for more codes
pub codes_full : (words codes : List ℕ) (place : ℕ) → place < length words →
    codes ≡ flat_map items_in (take place words) → length codes ≤ most_characters →
    most_characters < length codes + 6 →
    codes ≡ take most_characters (flat_map items_in words)
codes_full words codes place within is few full =
    let count : length codes ≡ 6 * place =
    ap length is ∙ length_items (take place words)
    ∙ ap (λ n. 6 * n) (length-take place words ∙ omega (arith, within)) in
    let whole : length codes ≡ most_characters = omega (arith, count, few, full) in
    let all : flat_map items_in words ≡ codes ++ flat_map items_in (drop place words) =
    items_split words place ∙ ap (λ cs. cs ++ flat_map items_in (drop place words)) (sym is) in
    sym (ap (take most_characters) all
    ∙ take-append-le most_characters codes (flat_map items_in (drop place words)) (omega (arith, whole))
    ∙ take_all most_characters codes (omega (arith, whole)))

-- all words have been taken
pub codes_whole : (words codes : List ℕ) (place : ℕ) → length words ≤ place →
    codes ≡ flat_map items_in (take place words) → length codes ≤ most_characters →
    codes ≡ take most_characters (flat_map items_in words)
codes_whole words codes place past is few =
    let all : codes ≡ flat_map items_in words =
    is ∙ ap (flat_map items_in) (take_all place words past) in
    sym (take_all most_characters codes few) ∙ ap (take most_characters) all
