-- Lines that are added one after another, and blocks that are shown.
use Rattle.std.proofs.Common.{◌≡◌, ℕ, ◌+◌, ◌<◌, ◌≤◌, suc, List, ◌∷◌, ◌++◌, length, drop, get_or, Option, None, Some, refl, sym, ap, ◌∙◌, arith, add-one, append_assoc, drop-cons}
use Rattle.std.specs.List.{enumerate_from, flat_map}
use Rattle.std.specs.FinMap as map
use Rattle.std.proofs.lemmas.Nat.{pow_pos}
use Rattle.l6_store.specs.Blocks.{Blocks, Fits, end_of}

-- the lines of what is left begin with that of the next one
line_next : {A : Type 0} (line : ℕ × A → List ℕ) (left : List A) (number : ℕ) (one : A)
    (rest : List A) → left ≡ one ∷ rest →
    flat_map line (enumerate_from number left)
    ≡ line (number, one) ++ flat_map line (enumerate_from (number + 1) rest)
line_next line left number one rest is =
    ap (λ l. flat_map line (enumerate_from number l)) is

pub line_more : {A : Type 0} (line : ℕ × A → List ℕ) (all : List A) (first index : ℕ) (one : A) →
    index < length all → one ≡ get_or all index one →
    flat_map line (enumerate_from (first + index) (drop index all))
    ≡ line (first + index, one)
    ++ flat_map line (enumerate_from (first + (index + 1)) (drop (index + 1) all))
line_more line all first index one within is =
    let next : first + index + 1 ≡ first + (index + 1) = omega arith in
    let left : drop index all ≡ one ∷ drop (index + 1) all =
    drop-cons all index one within
    ∙ ap (λ o. o ∷ drop (suc index) all) (sym is)
    ∙ ap (λ n. one ∷ drop n all) (sym (add-one index)) in
    line_next line (drop index all) (first + index) one (drop (index + 1) all) left
    ∙ ap (λ n. line (first + index, one) ++ flat_map line (enumerate_from n (drop (index + 1) all)))
    next

-- so a text with the lines that are left stays the same
pub text_more : {A : Type 0} (line : ℕ × A → List ℕ) (all : List A) (first index : ℕ) (one : A)
    (old new whole : List ℕ) → index < length all → one ≡ get_or all index one →
    old ++ flat_map line (enumerate_from (first + index) (drop index all)) ≡ whole →
    new ≡ old ++ line (first + index, one) →
    new ++ flat_map line (enumerate_from (first + (index + 1)) (drop (index + 1) all)) ≡ whole
text_more line all first index one old new whole within is so_far added =
    let left = flat_map line (enumerate_from (first + (index + 1)) (drop (index + 1) all)) in
    ap (λ text. text ++ left) added
    ∙ append_assoc old (line (first + index, one)) left
    ∙ ap (λ text. old ++ text) (sym (line_more line all first index one within is))
    ∙ so_far

-- no block begins past the end of a store
past_by : (units : ℕ) (blocks : Blocks) → Fits units blocks → (place : ℕ) → end_of units ≤ place →
    (found : Option (List ℕ)) → map.get blocks place ≡ found → map.get blocks place ≡ None
past_by units blocks fits place past None is = is
past_by units blocks fits place past (Some words) is =
    let block = fits.each place words is in
    absurd (omega (arith, block.is_aligned.within, past, pow_pos block.level))

pub none_past : (units : ℕ) (blocks : Blocks) → Fits units blocks → (place : ℕ) →
    end_of units ≤ place → map.get blocks place ≡ None
none_past units blocks fits place past =
    past_by units blocks fits place past (map.get blocks place) refl
