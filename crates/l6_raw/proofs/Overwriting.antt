-- What is true of words of which some were overwritten.
use Rattle.std.proofs.Common.{◌≡◌, ℕ, suc, ◌+◌, ◌^◌, ◌<◌, ◌≤◌, ◌-◌, List, [], ◌∷◌, ◌++◌, length, get_or, set, take, drop, replicate, slice_range, ◌⊎◌, inl, inr, refl, sym, ap, ◌∙◌, arith, length-append, length-drop}
use Rattle.std.proofs.Math.Seq.{drop-cons}
use Rattle.std.proofs.lemmas.Nat.{pow_pos}
use Rattle.std.proofs.lemmas.List.{append_assoc, set-append_right, take_more, length-take-le, get_or_append_left, get_or-append_right, get_or-take, get_or-drop}
use Rattle.std.proofs.lemmas.List.Elements.{All-take, All-drop, All-append, All-replicate}
use Rattle.l6_raw.specs.Numerals.{word_bits}
use Rattle.l6_raw.specs.Words.{AreWords, overwritten}

-- they are as many
pub length_overwritten : (words : List ℕ) (place : ℕ) (others : List ℕ)
    → place + length others ≤ length words
    → length (overwritten words place others) ≡ length words
length_overwritten words place others within =
    omega (
      arith,
      length-append (take place words) (others ++ drop (place + length others) words),
      length-append others (drop (place + length others) words),
      length-take-le place words (omega arith),
      length-drop (place + length others) words,
    )

-- and words
pub are_words_overwritten : (words : List ℕ) (place : ℕ) (others : List ℕ) → AreWords words
    → AreWords others → AreWords (overwritten words place others)
are_words_overwritten words place others were are =
    let P : ℕ → Type 0 = λ word. word < 2 ^ word_bits in
    All-append P (take place words) (others ++ drop (place + length others) words)
    (All-take P place words were)
    (All-append P others (drop (place + length others) words) are
    (All-drop P (place + length others) words were))

-- zeros are words
pub are_words_zeros : (count : ℕ) → AreWords (replicate count 0)
are_words_zeros count =
    All-replicate (λ (word : ℕ). word < 2 ^ word_bits) count 0 (pow_pos word_bits)

-- before and after those that were overwritten each word is as it was, ..
pub get_or_overwritten_before : (words : List ℕ) (place : ℕ) (others : List ℕ) (at : ℕ)
    → place ≤ length words → at < place
    → get_or (overwritten words place others) at 0 ≡ get_or words at 0
get_or_overwritten_before words place others at within before =
    get_or_append_left (take place words) (others ++ drop (place + length others) words) 0 at
    (omega (arith, length-take-le place words within))
    ∙ get_or-take place words at 0 before

-- .. and those are the others
pub get_or_overwritten_in : (words : List ℕ) (place : ℕ) (others : List ℕ) (index : ℕ)
    → place ≤ length words → index < length others
    → get_or (overwritten words place others) (place + index) 0 ≡ get_or others index 0
get_or_overwritten_in words place others index within below =
    let back : place + index - place ≡ index = omega arith in
    get_or-append_right (take place words) (others ++ drop (place + length others) words) place
    (place + index) 0 (length-take-le place words within) (omega arith)
    ∙ ap (λ (i : ℕ). get_or (others ++ drop (place + length others) words) i 0) back
    ∙ get_or_append_left others (drop (place + length others) words) 0 index below

pub get_or_overwritten_following : (words : List ℕ) (place : ℕ) (others : List ℕ) (at : ℕ)
    → place ≤ length words → place + length others ≤ at
    → get_or (overwritten words place others) at 0 ≡ get_or words at 0
get_or_overwritten_following words place others at within past =
    let rest : List ℕ = drop (place + length others) words in
    let sum : place + length others + (at - place - length others) ≡ at = omega arith in
    get_or-append_right (take place words) (others ++ rest) place at 0
    (length-take-le place words within) (omega arith)
    ∙ get_or-append_right others rest (length others) (at - place) 0 refl (omega arith)
    ∙ get_or-drop (place + length others) words (at - place - length others) 0
    ∙ ap (λ (i : ℕ). get_or words i 0) sum

-- the next word is overwritten, too
pub overwritten_more : (words : List ℕ) (place : ℕ) (others : List ℕ) (word : ℕ)
    → place + length others < length words
    → set (overwritten words place others) (place + length others) word
    ≡ overwritten words place (others ++ word ∷ [])
overwritten_more words place others word below =
    let count = length others in
    let at = place + count in
    let front : List ℕ = take place words in
    let index : at - place ≡ count = omega arith in
    let first : count - count ≡ 0 = omega arith in
    let following : suc at ≡ place + length (others ++ word ∷ []) =
    omega (arith, length-append others (word ∷ [])) in
    let past_others : set (others ++ drop at words) count word
    ≡ (others ++ word ∷ []) ++ drop (place + length (others ++ word ∷ [])) words =
    set-append_right others (drop at words) count count word refl (omega arith)
    ∙ ap (λ (i : ℕ). others ++ set (drop at words) i word) first
    ∙ ap (λ (rest : List ℕ). others ++ set rest 0 word) (drop-cons words at 0 below)
    ∙ sym (append_assoc others (word ∷ []) (drop (suc at) words))
    ∙ ap (λ (i : ℕ). (others ++ word ∷ []) ++ drop i words) following in
    set-append_right front (others ++ drop at words) place at word
    (length-take-le place words (omega (arith, below))) (omega arith)
    ∙ ap (λ (i : ℕ). front ++ set (others ++ drop at words) i word) index
    ∙ ap (λ (rest : List ℕ). front ++ rest) past_others

-- so many words from a place on are taken and dropped ones
range_is : (words : List ℕ) (place count : ℕ)
    → slice_range words place (place + count) ≡ take count (drop place words)
range_is words place count =
    let size : place + count - place ≡ count = omega arith in
    ap (λ (n : ℕ). take n (drop place words)) size

pub length_range : (words : List ℕ) (place count : ℕ) → place + count ≤ length words
    → length (slice_range words place (place + count)) ≡ count
length_range words place count within =
    ap (λ (range : List ℕ). length range) (range_is words place count)
    ∙ length-take-le count (drop place words) (omega (arith, length-drop place words))

-- one more of them
range_more : (words : List ℕ) (place count : ℕ) → place + count < length words
    → slice_range words place (place + count) ++ get_or words (place + count) 0 ∷ []
    ≡ slice_range words place (place + (count + 1))
range_more words place count below =
    ap (λ (range : List ℕ). range ++ get_or words (place + count) 0 ∷ [])
    (range_is words place count)
    ∙ ap (λ (word : ℕ). take count (drop place words) ++ word ∷ [])
    (sym (get_or-drop place words count 0))
    ∙ sym (take_more (drop place words) count 0 (omega (arith, length-drop place words)))
    ∙ sym (range_is words place (count + 1))

-- the next word is copied, too: it is as it was, since the two ranges are apart
pub copied_more : (words : List ℕ) (from to count done : ℕ) → from + count ≤ length words
    → to + count ≤ length words → (from + count ≤ to) ⊎ (to + count ≤ from) → done < count
    → set (overwritten words to (slice_range words from (from + done))) (to + done)
    (get_or (overwritten words to (slice_range words from (from + done))) (from + done) 0)
    ≡ overwritten words to (slice_range words from (from + (done + 1)))
copied_more words from to count done source target apart below =
    let others : List ℕ = slice_range words from (from + done) in
    let size = length_range words from done (omega arith) in
    let word = get_or words (from + done) 0 in
    let as_it_was : get_or (overwritten words to others) (from + done) 0 ≡ word =
    elim apart as (λ _. get_or (overwritten words to others) (from + done) 0 ≡ word) [
      | inl before ↦
          get_or_overwritten_before words to others (from + done) (omega arith)
          (omega (arith, before))
      | inr following ↦
          get_or_overwritten_following words to others (from + done) (omega arith)
          (omega (arith, following, size))
    ] in
    let place : to + done ≡ to + length others = omega (arith, size) in
    ap (set (overwritten words to others) (to + done)) as_it_was
    ∙ ap (λ (i : ℕ). set (overwritten words to others) i word) place
    ∙ overwritten_more words to others word (omega (arith, size))
    ∙ ap (overwritten words to) (range_more words from done (omega arith))
