-- The places of the blocks that a scan has found.
use Rattle.std.proofs.Common.{◌≡◌, ℕ, ◌+◌, ◌*◌, ◌%◌, ◌^◌, ◌<◌, ◌≤◌, List, [], ◌∷◌, ◌++◌, length, get_or, Some, inl, inr, arith, ap, ◌∙◌, sym, subst}
use Rattle.std.proofs.lemmas.Bool.{cases_lt}
use Rattle.std.proofs.lemmas.List.{length_push, get_or_append_left, get_or_push}
use Rattle.std.proofs.lemmas.List.Elements.{Contains-append_left, Contains-get_or, Contains-push, Contains-push_cases}
use Rattle.std.proofs.lemmas.Nat.{one_shl, pow_pos}
use Rattle.std.specs.List.{Contains}
use Rattle.std.specs.List.Sorted.{IsStrictlyIncreasing}
use Rattle.std.specs.Option.{option_map}
use Rattle.std.specs.FinMap as places
use Rattle.l6_word.specs.Numerals.{largest_level, unit_size}
use Rattle.l6_store.specs.Blocks.{Blocks, Fits, IsLive, block_at, end_of}
use Rattle.l6_store.proofs.Live.{live_size, live_words}
use Rattle.l6_draw.proofs.Keys.{key_live, keys_rise, live_key, same_rising}
use Rattle.l6_draw.proofs.Members.{none_in}

-- where a block is: it begins after the first unit and ends within the store
pub live_above : (units : ℕ) (blocks : Blocks) → Fits units blocks → (place : ℕ)
    → IsLive blocks place → unit_size ≤ place
live_above units blocks fits place live =
    (fits.each place (block_at blocks place) (live_words blocks place live)).is_aligned.above

pub live_within : (units : ℕ) (blocks : Blocks) → Fits units blocks → (place : ℕ)
    → IsLive blocks place → place + length (block_at blocks place) ≤ end_of units
live_within units blocks fits place live =
    let block = fits.each place (block_at blocks place) (live_words blocks place live) in
    let within = block.is_aligned.within in
    let size = block.size in
    omega arith

pub live_some : (units : ℕ) (blocks : Blocks) → Fits units blocks → (place : ℕ)
    → IsLive blocks place → 0 < length (block_at blocks place)
live_some units blocks fits place live =
    let block = fits.each place (block_at blocks place) (live_words blocks place live) in
    let size = block.size in
    let some = pow_pos block.level in
    omega arith

pub live_apart : (units : ℕ) (blocks : Blocks) → Fits units blocks → (one other : ℕ)
    → IsLive blocks one → IsLive blocks other → one < other
    → one + length (block_at blocks one) ≤ other
live_apart units blocks fits one other live_one live_other before =
    fits.apart one other (block_at blocks one) (block_at blocks other)
    (live_words blocks one live_one) (live_words blocks other live_other) before

-- a rising list stays one, where a larger number is pushed
rises_at : (xs : List ℕ) (y k : ℕ) → IsStrictlyIncreasing xs
    → ((x : ℕ) → Contains xs x → x < y) → k + 1 < length xs + 1
    → get_or (xs ++ y ∷ []) k 0 < get_or (xs ++ y ∷ []) (k + 1) 0
rises_at xs y k rising below within =
    let here = get_or_append_left xs (y ∷ []) 0 k (omega arith) in
    elim (cases_lt (k + 1) (length xs))
    as (λ _. get_or (xs ++ y ∷ []) k 0 < get_or (xs ++ y ∷ []) (k + 1) 0) [
      | inl inside ↦
          (let next = get_or_append_left xs (y ∷ []) 0 (k + 1) inside in
          let up = rising k inside in omega arith)
      | inr last ↦
          (let next = get_or_push xs y 0 (k + 1) (omega arith) in
          let up = below (get_or xs k 0) (Contains-get_or xs k 0 (omega arith)) in omega arith)
    ]

pub rises_push : (xs : List ℕ) (y : ℕ) → IsStrictlyIncreasing xs
    → ((x : ℕ) → Contains xs x → x < y) → IsStrictlyIncreasing (xs ++ y ∷ [])
rises_push xs y rising below k within =
    rises_at xs y k rising below (let pushed = length_push xs y in omega arith)

-- they are those of all blocks before a place, rising
pub record Scanned (blocks : Blocks) (place : ℕ) (found : List ℕ) : Type 0 where
  pub rising : IsStrictlyIncreasing found
  pub below : (start : ℕ) → Contains found start → start < place
  pub live : (start : ℕ) → Contains found start → IsLive blocks start
  pub all : (start : ℕ) → IsLive blocks start → start < place → Contains found start

pub scanned_none : (units : ℕ) (blocks : Blocks) → Fits units blocks → Scanned blocks unit_size []
scanned_none units blocks fits = record {
  rising = λ k within. absurd (omega arith);
  below = λ start is. absurd (none_in start is);
  live = λ start is. absurd (none_in start is);
  all = λ start live before.
      absurd (let above = live_above units blocks fits start live in omega arith);
}

-- after a place where no block begins
pub scanned_past : (blocks : Blocks) (place : ℕ) (found : List ℕ) → (IsLive blocks place → ⊥)
    → Scanned blocks place found → Scanned blocks (place + 1) found
scanned_past blocks place found none scanned = record {
  rising = scanned.rising;
  below = λ start is. (let before = scanned.below start is in omega arith);
  live = scanned.live;
  all = λ start live before.
      elim (cases_lt start place) as (λ _. Contains found start) [
        | inl less ↦ scanned.all start live less
        | inr not_less ↦
            (let same : start ≡ place = omega arith in
            absurd (none (subst (λ (p : ℕ). IsLive blocks p) same live)))
      ];
}

-- and after a block
pub scanned_block : (units : ℕ) (blocks : Blocks) → Fits units blocks → (place size : ℕ)
    (found : List ℕ) → IsLive blocks place → size ≡ length (block_at blocks place)
    → Scanned blocks place found → Scanned blocks (place + size) (found ++ place ∷ [])
scanned_block units blocks fits place size found here is scanned = record {
  rising = rises_push found place scanned.rising scanned.below;
  below = λ start there.
      (let some = live_some units blocks fits place here in
      elim (Contains-push_cases found place start there) as (λ _. start < place + size) [
        | inl before ↦ (let less = scanned.below start before in omega arith)
        | inr same ↦ omega arith
      ]);
  live = λ start there.
      elim (Contains-push_cases found place start there) as (λ _. IsLive blocks start) [
        | inl before ↦ scanned.live start before
        | inr same ↦ subst (λ (p : ℕ). IsLive blocks p) same here
      ];
  all = λ start live before.
      elim (cases_lt start place) as (λ _. Contains (found ++ place ∷ []) start) [
        | inl less ↦ Contains-append_left found (place ∷ []) start (scanned.all start live less)
        | inr not_less ↦
            elim (cases_lt place start) as (λ _. Contains (found ++ place ∷ []) start) [
              | inl after ↦
                  absurd (let apart = live_apart units blocks fits place start here live after in
                  omega arith)
              | inr same ↦
                  subst (λ (p : ℕ). Contains (found ++ place ∷ []) p)
                  (let one : place ≡ start = omega arith in one) (Contains-push found place)
            ]
      ];
}

-- at the end of the store they are all
pub scanned_all : (units : ℕ) (blocks : Blocks) → Fits units blocks → (place : ℕ) (found : List ℕ)
    → end_of units ≤ place → Scanned blocks place found → found ≡ places.keys blocks
scanned_all units blocks fits place found past scanned =
    same_rising found (places.keys blocks) scanned.rising (keys_rise blocks)
    (λ start is. live_key blocks start (scanned.live start is))
    (λ start is.
    let live = key_live blocks start is in
    scanned.all start live
    (let within = live_within units blocks fits start live in
    let some = live_some units blocks fits start live in omega arith))

-- the scan as the code makes it
pub scan_begins : (units : ℕ) (blocks : Blocks) → Fits units blocks → (place : ℕ) (found : List ℕ)
    → place ≡ unit_size → found ≡ [] → Scanned blocks place found
scan_begins units blocks fits place found is none =
    subst (λ (p : ℕ). Scanned blocks p found) (sym is)
    (subst (λ (f : List ℕ). Scanned blocks unit_size f) (sym none) (scanned_none units blocks fits))

pub scan_passes : (blocks : Blocks) (place word : ℕ) (found : List ℕ) → word ≡ place
    → (IsLive blocks word → ⊥) → Scanned blocks place found → Scanned blocks (place + 1) found
scan_passes blocks place word found is none scanned =
    scanned_past blocks place found
    (λ live. none (subst (λ (p : ℕ). IsLive blocks p) (sym is) live)) scanned

small_power : (level : ℕ) → level ≤ largest_level → 1 * 2 ^ level % 2 ^ 32 ≡ 2 ^ level
small_power level small = one_shl level 32 (omega arith)

pub scan_finds : (units : ℕ) (blocks : Blocks) → Fits units blocks → (place word level : ℕ)
    (found after : List ℕ) → word ≡ place → IsLive blocks word
    → option_map (λ (k : ℕ). 2 ^ k) (Some level)
    ≡ option_map (λ (words : List ℕ). length words) (places.get blocks word)
    → level ≤ largest_level → after ≡ found ++ place ∷ [] → Scanned blocks place found
    → Scanned blocks (place + 1 * 2 ^ level % 2 ^ 32) after
scan_finds units blocks fits place word level found after is live size small pushed scanned =
    let here : IsLive blocks place = subst (λ (p : ℕ). IsLive blocks p) is live in
    let determined = subst (λ (p : ℕ). option_map (λ (k : ℕ). 2 ^ k) (Some level)
    ≡ option_map (λ (words : List ℕ). length words) (places.get blocks p)) is size in
    subst (λ (f : List ℕ). Scanned blocks (place + 1 * 2 ^ level % 2 ^ 32) f) (sym pushed)
    (scanned_block units blocks fits place (1 * 2 ^ level % 2 ^ 32) found here
    (small_power level small ∙ sym (live_size blocks place level here determined)) scanned)
