-- Blocks that fit a store still do once one is got, or has new words.
use Rattle.std.proofs.Common.{◌≡◌, ℕ, ◌+◌, ◌^◌, ◌<◌, ◌≤◌, List, length, Some, arith, inl, inr, ◌⊎◌}
use Rattle.std.proofs.lemmas.Bool.{cases_lt}
use Rattle.std.proofs.lemmas.Nat.{pow_pos}
use Rattle.std.specs.List.{All}
use Rattle.std.specs.FinMap as map
use Rattle.l6_word.specs.Numerals.{largest_level, word_bits}
use Rattle.l6_store.specs.Blocks.{Blocks, Fits}
use Rattle.l6_store.specs.Open.{IsOpen}
use Rattle.l6_store.proofs.Tagged.{fits_insert}

-- a block has new words, as many as before
pub fits_changed : (units : ℕ) (blocks : Blocks) (place : ℕ) (old new : List ℕ) → Fits units blocks
    → map.get blocks place ≡ Some old → length new ≡ length old
    → All (λ word. word < 2 ^ word_bits) new → Fits units (map.insert blocks place new)
fits_changed units blocks place old new fits is count are_words =
    let block = fits.each place old is in
    fits_insert units blocks place new fits
    (record {
      level = block.level;
      size = omega (arith, count, block.size);
      is_aligned = block.is_aligned;
      are_words = are_words;
    })
    (λ q words other found.
    elim (cases_lt q place)
    as (λ _. (q + length words ≤ place) ⊎ (place + length new ≤ q)) [
      | inl lower ↦ inl (fits.apart q place words old found is lower)
      | inr upper ↦
          inr (omega (
            arith,
            count,
            fits.apart place q old words is found (omega (arith, other, upper)),
          ))
    ])

-- a new block is at an open place
pub fits_got : (units : ℕ) (blocks : Blocks) (level place : ℕ) (new : List ℕ) → Fits units blocks
    → level ≤ largest_level → IsOpen units blocks (2 ^ level) place → length new ≡ 2 ^ level
    → All (λ word. word < 2 ^ word_bits) new → Fits units (map.insert blocks place new)
fits_got units blocks level place new fits small clear count are_words =
    fits_insert units blocks place new fits
    (record {
      level = level;
      size = count;
      is_aligned = record {
        small = small;
        aligned = clear.aligned;
        above = clear.above;
        within = clear.within;
      };
      are_words = are_words;
    })
    (λ q words other found.
    elim (cases_lt q place)
    as (λ _. (q + length words ≤ place) ⊎ (place + length new ≤ q)) [
      | inl lower ↦
          inl (clear.free q words place found (omega arith) (omega (arith, pow_pos level))
          (omega (arith, lower)))
      | inr upper ↦
          elim (cases_lt q (place + 2 ^ level))
          as (λ _. (q + length words ≤ place) ⊎ (place + length new ≤ q)) [
            | inl within ↦
                let block = fits.each q words found in
                absurd (omega (
                  arith,
                  block.size,
                  pow_pos block.level,
                  clear.free q words q found upper within (omega arith),
                ))
            | inr past ↦ inr (omega (arith, count, past))
          ]
    ])
