-- The levels of blocks that are asked for, and of those that are there.
use Rattle.std.proofs.Common.{◌≡◌, ℕ, suc, ◌^◌, ◌<◌, ◌≤◌, Bool, true, false, cond, ◌==◌, List, [], length, Option, None, Some, Ok, Err, refl, ap, sym, ◌∙◌, arith, nat_le, ok_or}
use Rattle.std.specs.Prelude.{IfOk}
use Rattle.std.proofs.lemmas.Bool.{le-leb, lt-leb}
use Rattle.std.proofs.Math.Pow.{pow-lt}
use Rattle.std.specs.Option.{unwrap_or}
use Rattle.std.specs.FinMap as map
use Rattle.l6_word.specs.Numerals.{largest_level}
use Rattle.l6_word.specs.Trying.{◌>>=◌}
use Rattle.l6_store.specs.Blocks.{Fits, block_at}
use Rattle.l6_store.specs.Least.{least}
use Rattle.l6_store.proofs.Least.{Answers, answers_alone, least_answers}
use Rattle.l6_steps.specs.declared.trap.Trap.TheVariants.{BadSize, NotABlock}
use Rattle.l6_steps.specs.Getting.{least_level, level_at, level_for, level_of}
use Rattle.l6_steps.specs.State.{Memory}

-- the levels of which a block has so many words
abbrev pub enough : ℕ → ℕ → Bool
enough words level = nat_le words (2 ^ level)

-- the least of them
pub least_is : (words level : ℕ) → level ≤ largest_level → words ≤ 2 ^ level →
    ((k : ℕ) → k < level → 2 ^ k < words) →
    least (suc largest_level) (enough words) ≡ Some level
unfolding Answers
least_is words level small some lower =
    answers_alone (suc largest_level) (enough words) (least (suc largest_level) (enough words))
    (Some level) (least_answers (suc largest_level) (enough words))
    (omega arith, le-leb words (2 ^ level) some, λ k below. lt-leb words (2 ^ k) (lower k below))

-- a block of a level has just as many words as it wants
pub level_of_size : (words level : ℕ) → level ≤ largest_level → words ≡ 2 ^ level →
    level_of words ≡ level
level_of_size words level small is =
    ap (λ found. unwrap_or found 0)
    (least_is words level small (omega (arith, is)) (λ k below. omega (arith, is, pow-lt below)))

small_by : (words : ℕ) (found : Option ℕ) → Answers (suc largest_level) (enough words) found →
    IfOk (ok_or found BadSize) (λ level. level ≤ largest_level)
unfolding Answers
small_by words (Some level) answers = omega (arith, answers.0)
small_by words None answers = tt

small_unless : (words : ℕ) (none : Bool) →
    IfOk (cond none (Err BadSize) (ok_or (least_level words) BadSize))
    (λ level. level ≤ largest_level)
small_unless words true = tt
small_unless words false =
    small_by words (least_level words) (least_answers (suc largest_level) (enough words))

-- no block is wanted that is larger than the largest
pub level_is_small : (words : ℕ) → IfOk (level_for words) (λ level. level ≤ largest_level)
level_is_small words = small_unless words (words == 0)

-- a block of a level begins at a place
pub record HasLevel (memory : Memory) (place level : ℕ) : Type 0 where
  pub is : map.get memory.blocks place ≡ Some (block_at memory.blocks place)
  pub small : level ≤ largest_level
  pub size : length (block_at memory.blocks place) ≡ 2 ^ level

level_by : (units : ℕ) (memory : Memory) (place : ℕ) → Fits units memory.blocks →
    (found : Option (List ℕ)) → map.get memory.blocks place ≡ found →
    IfOk (ok_or found NotABlock >>= λ words. Ok (level_of (length words)))
    (HasLevel memory place)
level_by units memory place fits None is = tt
level_by units memory place fits (Some words) is =
    let block = fits.each place words is in
    let same : block_at memory.blocks place ≡ words = ap (λ found. unwrap_or found []) is in
    let level = level_of_size (length words) block.level block.is_aligned.small block.size in
    record {
      is = is ∙ ap (λ (ws : List ℕ). Some ws) (sym same);
      small = omega (arith, level, block.is_aligned.small);
      size = ap (length {A = ℕ}) same ∙ block.size ∙ ap (λ (k : ℕ). 2 ^ k) (sym level);
    }

-- the level of a block is the one that its words fill
pub level_at_fills : (units : ℕ) (memory : Memory) (place : ℕ) → Fits units memory.blocks →
    IfOk (level_at memory place) (HasLevel memory place)
level_at_fills units memory place fits =
    level_by units memory place fits (map.get memory.blocks place) refl
