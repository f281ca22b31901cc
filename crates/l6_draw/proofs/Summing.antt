-- The words of all blocks lie in the store.
use Rattle.std.proofs.Common.{◌≡◌, ℕ, ◌+◌, ◌^◌, ◌<◌, ◌≤◌, List, [], ◌∷◌, length, get_or, drop, arith, ap, ◌∙◌, subst, sym}
use Rattle.std.proofs.lemmas.List.Elements.{Contains-get_or}
use Rattle.std.proofs.lemmas.List.Sums.{sum_by-cons, sum_by-drop_more}
use Rattle.std.specs.List.{Contains, sum_by}
use Rattle.std.specs.List.Sorted.{IsStrictlySortedBy}
use Rattle.std.specs.Ordering.{nat_cmp}
use Rattle.std.specs.FinMap as places
use Rattle.l6_word.specs.Numerals.{unit_size}
use Rattle.l6_store.specs.Blocks.{Blocks, Fits, IsLive, block_at, end_of}
use Rattle.l6_store.specs.Numerals.{most_units}
use Rattle.l6_draw.proofs.Keys.{below_later, key_live, keys_sorted}
use Rattle.l6_draw.proofs.Members.{first_in, later_in}
use Rattle.l6_draw.proofs.Scanning.{live_above, live_apart, live_within}

abbrev pub size_in : Blocks → ℕ → ℕ
size_in blocks place = length (block_at blocks place)

sum_from : (units : ℕ) (blocks : Blocks) → Fits units blocks → (from : ℕ) → from ≤ end_of units
    → (starts : List ℕ) → IsStrictlySortedBy nat_cmp starts
    → ((start : ℕ) → Contains starts start → IsLive blocks start)
    → ((start : ℕ) → Contains starts start → from ≤ start)
    → from + sum_by (size_in blocks) starts ≤ end_of units
unfolding IsStrictlySortedBy
sum_from units blocks fits from within [] sorted live above = omega arith
sum_from units blocks fits from within (start ∷ starts) sorted live above =
    let here = live start (first_in start starts) in
    let first = above start (first_in start starts) in
    let rest = sum_from units blocks fits (start + size_in blocks start)
    (live_within units blocks fits start here) starts sorted.1
    (λ other is. live other (later_in start other starts is))
    (λ other is. live_apart units blocks fits start other here
    (live other (later_in start other starts is))
    (below_later start other starts sorted.0 is)) in
    let sum = sum_by-cons (size_in blocks) start starts in
    omega arith

pub sum_within : (units : ℕ) (blocks : Blocks) → Fits units blocks
    → unit_size + sum_by (size_in blocks) (places.keys blocks) ≤ end_of units
sum_within units blocks fits =
    sum_from units blocks fits unit_size (omega arith) (places.keys blocks) (keys_sorted blocks)
    (key_live blocks) (λ start is. live_above units blocks fits start (key_live blocks start is))

-- the block at one of these places
place_within : (units : ℕ) (blocks : Blocks) → Fits units blocks → (starts : List ℕ) (index : ℕ)
    → starts ≡ places.keys blocks → index < length starts
    → get_or starts index 0 + size_in blocks (get_or starts index 0) ≤ end_of units
place_within units blocks fits starts index all within =
    live_within units blocks fits (get_or starts index 0)
    (key_live blocks (get_or starts index 0)
    (subst (λ (keys : List ℕ). Contains keys (get_or starts index 0)) all
    (Contains-get_or starts index 0 within)))

end_small : (units : ℕ) → units ≤ most_units → end_of units < 2 ^ 32
end_small units most = omega arith

-- the place after it, where its words are looked up in a store
pub place_small : (units : ℕ) (given held : Blocks) → given ≡ held → Fits units given
    → units ≤ most_units → (starts : List ℕ) (index : ℕ) → starts ≡ places.keys held
    → index < length starts → (words : List ℕ) → words ≡ block_at given (get_or starts index 0)
    → get_or starts index 0 + length words < 2 ^ 32
place_small units given held same fits most starts index all within words are =
    let end = place_within units given fits starts index
    (all ∙ ap (λ (blocks : Blocks). places.keys blocks) (sym same)) within in
    let small = end_small units most in
    let size = ap length are in
    omega arith

-- one block more
pub used_small : (units : ℕ) (blocks : Blocks) → Fits units blocks → units ≤ most_units
    → (starts : List ℕ) (index used : ℕ) → starts ≡ places.keys blocks → index < length starts
    → used + sum_by (size_in blocks) (drop index starts) ≡ sum_by (size_in blocks) starts
    → (words : List ℕ) → words ≡ block_at blocks (get_or starts index 0)
    → used + length words < 2 ^ 32
used_small units blocks fits most starts index used all within is words are =
    let total : unit_size + sum_by (size_in blocks) starts ≤ end_of units
    = subst (λ (keys : List ℕ). unit_size + sum_by (size_in blocks) keys ≤ end_of units) (sym all)
    (sum_within units blocks fits) in
    let more = sum_by-drop_more (size_in blocks) starts index 0 within in
    let small = end_small units most in
    let size = ap length are in
    omega arith

pub used_all : (units : ℕ) (blocks : Blocks) → Fits units blocks → (starts : List ℕ) (used more : ℕ)
    → starts ≡ places.keys blocks → used + more ≡ sum_by (size_in blocks) starts
    → used + unit_size ≤ end_of units
used_all units blocks fits starts used more all is =
    let total : unit_size + sum_by (size_in blocks) starts ≤ end_of units
    = subst (λ (keys : List ℕ). unit_size + sum_by (size_in blocks) keys ≤ end_of units) (sym all)
    (sum_within units blocks fits) in
    omega arith
