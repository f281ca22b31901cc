-- What callers may conclude of a block that begins at a place.
use Rattle.std.proofs.Common.{◌≡◌, ℕ, ◌+◌, ◌^◌, ◌<◌, ◌≤◌, List, [], length, Option, Some, None, refl, ap, ◌∙◌, arith}
use Rattle.std.proofs.Math.Nat.{pow-le-pow_right}
use Rattle.std.proofs.lemmas.Nat.{pow_pos}
use Rattle.std.specs.List.{slice_get}
use Rattle.std.specs.Option.{IsSome, option_map, unwrap_or}
use Rattle.std.specs.FinMap as map
use Rattle.l6_word.specs.Numerals.{unit_size}
use Rattle.l6_store.specs.Blocks.{Blocks, Fits, IsLive, LiesIn, block_at, end_of}

some_of : (found : Option (List ℕ)) → IsSome found → found ≡ Some (unwrap_or found [])
some_of (Some words) live = refl
some_of None live = cc

-- its words
pub live_words : (blocks : Blocks) (place : ℕ) → IsLive blocks place
    → map.get blocks place ≡ Some (block_at blocks place)
live_words blocks place live = some_of (map.get blocks place) live

-- how many they are, by what `live` answers
pub live_size : (blocks : Blocks) (place level : ℕ) → IsLive blocks place
    → option_map (λ (k : ℕ). 2 ^ k) (Some level) ≡ option_map (λ (words : List ℕ). length words)
    (map.get blocks place)
    → length (block_at blocks place) ≡ 2 ^ level
live_size blocks place level live size =
    let determined : Some (2 ^ level) ≡ Some (length (block_at blocks place))
    = size ∙ ap (option_map (λ (words : List ℕ). length words)) (live_words blocks place live) in
    cc

-- and that their places lie in it
pub lies_in : (blocks : Blocks) (place index : ℕ) → IsLive blocks place
    → index < length (block_at blocks place) → LiesIn blocks (place + index)
lies_in blocks place index live below =
    record {
      start = place;
      words = block_at blocks place;
      is = live_words blocks place live;
      from = omega arith;
      below = omega arith;
    }

-- no block begins past the end of a store
none_past_by : (units : ℕ) (blocks : Blocks) → Fits units blocks → (place : ℕ)
    → end_of units ≤ place → (found : Option (List ℕ)) → map.get blocks place ≡ found
    → map.get blocks place ≡ None
none_past_by units blocks fits place past None is = is
none_past_by units blocks fits place past (Some words) is =
    let block = fits.each place words is in
    absurd (omega (arith, block.is_aligned.within, pow_pos block.level))

-- so it has no words
pub no_word_past : (units : ℕ) (blocks : Blocks) → Fits units blocks → (place index : ℕ)
    → end_of units ≤ place → slice_get (block_at blocks place) index ≡ None
no_word_past units blocks fits place index past =
    ap (λ (found : Option (List ℕ)). slice_get (unwrap_or found []) index)
    (none_past_by units blocks fits place past (map.get blocks place) refl)

-- a block has no more words than the largest
few_by : (units : ℕ) (blocks : Blocks) → Fits units blocks → (place : ℕ) (found : Option (List ℕ))
    → map.get blocks place ≡ found → length (unwrap_or found []) ≤ unit_size
few_by units blocks fits place None is = omega arith
few_by units blocks fits place (Some words) is =
    let block = fits.each place words is in
    let small : 2 ^ block.level ≤ unit_size
    = pow-le-pow_right (omega arith) block.is_aligned.small in
    omega (arith, block.size, small)

pub few_words : (units : ℕ) (blocks : Blocks) → Fits units blocks → (place : ℕ)
    → length (block_at blocks place) ≤ unit_size
few_words units blocks fits place = few_by units blocks fits place (map.get blocks place) refl
