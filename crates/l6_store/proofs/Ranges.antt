-- Parts of a list of words: so many from a place on.
use Rattle.std.proofs.Common.{◌≡◌, ℕ, ◌+◌, ◌-◌, ◌<◌, ◌≤◌, List, length, get_or, set, drop, slice_range, replicate, ap, sym, ◌∙◌, arith, inl, inr}
use Rattle.std.proofs.lemmas.List.{get_or-take, get_or-drop, get_or-replicate, length-replicate, get_or-set_same, get_or-set_other, length-set}
use Rattle.std.proofs.lemmas.Bool.{cases_eq}
use Rattle.std.proofs.lemmas.Grind.{same_number_lists}
pub use Rattle.l6_raw.proofs.Overwriting.{length_range}

pub index_range : (words : List ℕ) (place size k : ℕ) → k < size
    → get_or (slice_range words place (place + size)) k 0 ≡ get_or words (place + k) 0
index_range words place size k below =
    get_or-take (place + size - place) (drop place words) k 0 (omega arith)
    ∙ get_or-drop place words k 0

-- two parts are equal where each word is
pub same_range : (one other : List ℕ) (place there size : ℕ) → place + size ≤ length one
    → there + size ≤ length other
    → ((k : ℕ) → k < size → get_or one (place + k) 0 ≡ get_or other (there + k) 0)
    → slice_range one place (place + size) ≡ slice_range other there (there + size)
same_range one other place there size within within_other each =
    let counts = length_range one place size within in
    same_number_lists (slice_range one place (place + size))
    (slice_range other there (there + size))
    (counts ∙ sym (length_range other there size within_other))
    (λ k below.
    index_range one place size k (omega arith)
    ∙ each k (omega arith)
    ∙ sym (index_range other there size k (omega arith)))

pub zero_range : (words : List ℕ) (place size : ℕ) → place + size ≤ length words
    → ((k : ℕ) → k < size → get_or words (place + k) 0 ≡ 0)
    → slice_range words place (place + size) ≡ replicate size 0
zero_range words place size within each =
    let counts = length_range words place size within in
    same_number_lists (slice_range words place (place + size)) (replicate size 0)
    (counts ∙ sym (length-replicate size 0))
    (λ k below.
    index_range words place size k (omega arith)
    ∙ each k (omega arith)
    ∙ sym (get_or-replicate size k 0 0 (omega arith)))

-- a word written into a part
pub set_range : (words : List ℕ) (place size k value : ℕ) → place + size ≤ length words → k < size
    → slice_range (set words (place + k) value) place (place + size)
    ≡ set (slice_range words place (place + size)) k value
set_range words place size k value within below =
    let there : place + k < length words = omega arith in
    let longer : place + size ≤ length (set words (place + k) value)
    = omega (arith, length-set words (place + k) value) in
    let counts = length_range (set words (place + k) value) place size longer in
    let others = length_range words place size within in
    same_number_lists (slice_range (set words (place + k) value) place (place + size))
    (set (slice_range words place (place + size)) k value)
    (counts ∙ sym others ∙ sym (length-set (slice_range words place (place + size)) k value))
    (λ j within_part.
    index_range (set words (place + k) value) place size j (omega arith)
    ∙ elim (cases_eq j k)
    as (λ _. get_or (set words (place + k) value) (place + j) 0
    ≡ get_or (set (slice_range words place (place + size)) k value) j 0) [
      | inl same ↦
          ap (λ (i : ℕ). get_or (set words (place + k) value) (place + i) 0) same
          ∙ get_or-set_same words (place + k) value 0 there
          ∙ sym (ap (λ (i : ℕ). get_or (set (slice_range words place (place + size)) k value) i 0)
          same
          ∙ get_or-set_same (slice_range words place (place + size)) k value 0 (omega arith))
      | inr other ↦
          get_or-set_other words (place + k) (place + j) value 0 (λ same. other (omega arith))
          ∙ sym (get_or-set_other (slice_range words place (place + size)) k j value 0 other
          ∙ index_range words place size j (omega arith))
    ])
