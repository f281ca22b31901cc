-- Whole gets and frees of the buddy rule keep a store filled.
use Rattle.std.proofs.Common.{◌≡◌, ℕ, zero, suc, ◌+◌, ◌-◌, ◌*◌, ◌%◌, ◌^◌, ◌<◌, ◌≤◌, Bool, true, false, ◌==◌, if◌then◌else◌, List, [], length, replicate, Option, Some, None, refl, ap, sym, ◌∙◌, subst, arith, inl, inr}
use Rattle.std.proofs.lemmas.Bool.{cases_lt, cases_Bool, eq-eqb, ne_eqb}
use Rattle.std.proofs.lemmas.Nat.{pow_below}
use Rattle.std.proofs.lemmas.List.{length-replicate}
use Rattle.std.specs.Option.{unwrap_or}
use Rattle.std.specs.FinMap as map
use Rattle.l6_word.specs.Numerals.{largest_level, unit_size}
use Rattle.l6_store.specs.Blocks.{Blocks, Fits, LiesIn, block_at}
use Rattle.l6_store.specs.Open.{IsOpen}
use Rattle.l6_store.specs.Rule.{Order}
use Rattle.l6_store.specs.Buddy.{DetachedPiece, has, listed, IsListed, buddy_of, first_or, first_taken, halved, halved_often, joined, joined_often, level_at, level_found, piece_freed, piece_got, put_back}
use Rattle.l6_store.specs.Least.{least}
use Rattle.l6_store.specs.Tiles.{Tiles}
use Rattle.l6_store.specs.inner.Detached.{Holding}
use Rattle.l6_store.proofs.Least.{Answers, least_answers, answers_alone}
use Rattle.l6_store.proofs.Multiples.{same_multiple, times_size}
use Rattle.l6_store.proofs.Finding.{Found, level_is_found, large_piece}
use Rattle.l6_store.proofs.Detached.{holds_taken, holds_halved, holds_joined, holds_released}
use Rattle.l6_store.proofs.DetachedBlocks.{detached_is_block, block_is_detached}

-- ---- halving often
pub halved_often_level : (times : ℕ) (detached : DetachedPiece) → times ≤ detached.level
    → (halved_often times detached).level + times ≡ detached.level
unfolding halved_often
halved_often_level zero detached le = omega arith
halved_often_level (suc times) detached le =
    let less = halved_often_level times (halved detached) (omega arith) in omega (arith, less)

pub halved_often_place : (times : ℕ) (detached : DetachedPiece) →
    (halved_often times detached).place ≡ detached.place
unfolding halved_often
halved_often_place zero detached = refl
halved_often_place (suc times) detached = halved_often_place times (halved detached)

pub halved_often_holds : (units : ℕ) (blocks : Blocks) (times : ℕ) (detached : DetachedPiece)
    → times ≤ detached.level → Holding units blocks detached
    → Holding units blocks (halved_often times detached)
unfolding halved_often
halved_often_holds units blocks zero detached le holding = holding
halved_often_holds units blocks (suc times) detached le holding =
    halved_often_holds units blocks times (halved detached) (omega arith)
    (holds_halved units blocks detached (omega arith) holding)

-- ---- joining often
joined_none : (detached : DetachedPiece) → joined_often zero detached ≡ detached
unfolding joined_often
joined_none detached = refl

joined_then : (times : ℕ) (detached : DetachedPiece) (b : Bool)
    → has (buddy_of detached.level detached.place) (listed detached.order detached.level) ≡ b
    → joined_often (suc times) detached ≡ (if b then joined_often times (joined detached) else detached)
unfolding joined_often
joined_then times detached b is =
    ap (λ (t : Bool). if t then joined_often times (joined detached) else detached) is

-- one joining more
pub joined_often_more : (times : ℕ) (detached : DetachedPiece)
    → IsListed detached.order detached.level (buddy_of detached.level detached.place)
    → joined_often (suc times) detached ≡ joined_often times (joined detached)
joined_often_more times detached is = joined_then times detached true is

-- and no more
pub joined_often_done : (times : ℕ) (detached : DetachedPiece)
    → has (buddy_of detached.level detached.place) (listed detached.order detached.level) ≡ false
    → joined_often times detached ≡ detached
unfolding joined_often
joined_often_done zero detached is = refl
joined_often_done (suc times) detached is = joined_then times detached false is

-- what comes of it: a detached piece whose buddy is not free, or of the last level
pub record Joined (units : ℕ) (blocks : Blocks) (top : ℕ) (detached : DetachedPiece) : Type 0 where
  pub holds : Holding units blocks detached
  pub most : detached.level ≤ top
  pub alone : detached.level < top →
      IsListed detached.order detached.level (buddy_of detached.level detached.place) → ⊥

pub joined_often_holds : (units : ℕ) (blocks : Blocks) (times : ℕ) (detached : DetachedPiece)
    → detached.level + times ≤ largest_level → Holding units blocks detached
    → Joined units blocks (detached.level + times) (joined_often times detached)
joined_often_holds units blocks zero detached le holding =
    subst (λ (h : DetachedPiece). Joined units blocks (detached.level + zero) h)
    (sym (joined_none detached))
    (record { holds = holding; most = omega arith; alone = λ less. absurd (omega arith) })
joined_often_holds units blocks (suc times) detached le holding =
    elim (cases_Bool (has (buddy_of detached.level detached.place)
    (listed detached.order detached.level)))
    as (λ _. Joined units blocks (detached.level + suc times) (joined_often (suc times) detached)) [
      | inl is ↦
          let top : suc detached.level + times ≡ detached.level + suc times = omega arith in
          subst (λ (h : DetachedPiece). Joined units blocks (detached.level + suc times) h)
          (sym (joined_often_more times detached is))
          (subst (λ (t : ℕ). Joined units blocks t (joined_often times (joined detached))) top
          (joined_often_holds units blocks times (joined detached) (omega arith)
          (holds_joined units blocks detached (omega arith) holding is)))
      | inr none ↦
          subst (λ (h : DetachedPiece). Joined units blocks (detached.level + suc times) h)
          (sym (joined_often_done (suc times) detached none))
          (record {
            holds = holding;
            most = omega arith;
            alone = λ less is. (let test = none in cc);
          })
    ]

pub joined_often_level : (times : ℕ) (detached : DetachedPiece)
    → (joined_often times detached).level ≤ detached.level + times
joined_often_level zero detached =
    omega (arith, ap (λ (h : DetachedPiece). h.level) (joined_none detached))
joined_often_level (suc times) detached =
    elim (cases_Bool (has (buddy_of detached.level detached.place)
    (listed detached.order detached.level)))
    as (λ _. (joined_often (suc times) detached).level ≤ detached.level + suc times) [
      | inl is ↦
          omega (
            arith,
            ap (λ (h : DetachedPiece). h.level) (joined_often_more times detached is),
            joined_often_level times (joined detached),
          )
      | inr none ↦
          omega (
            arith,
            ap (λ (h : DetachedPiece). h.level)
                (joined_often_done (suc times) detached none),
          )
    ]

-- ---- the level of a block
pub level_at_is : (blocks : Blocks) (place level : ℕ) (words : List ℕ) → level ≤ largest_level
    → map.get blocks place ≡ Some words → length words ≡ 2 ^ level → level_at blocks place ≡ level
unfolding level_at Answers
level_at_is blocks place level words small is size =
    let test : ℕ → Bool = λ k. 2 ^ k == length (block_at blocks place) in
    let counts : length (block_at blocks place) ≡ 2 ^ level
    = ap (λ (found : Option (List ℕ)). length (unwrap_or found [])) is ∙ size in
    let answer : Answers (suc largest_level) test (Some level) = (
      omega arith,
      eq-eqb (2 ^ level) (length (block_at blocks place)) (sym counts),
      λ k less. ne_eqb (2 ^ k) (length (block_at blocks place))
          (λ same. absurd (omega (arith, counts, pow_below k level less))),
    ) in
    ap (λ (found : Option ℕ). unwrap_or found 0)
    (answers_alone (suc largest_level) test (least (suc largest_level) test) (Some level)
    (least_answers (suc largest_level) test) answer)

-- ---- gets and frees
-- the piece that a get has detached at the end
pub got_holds : (units : ℕ) (blocks : Blocks) (order : Order) (level found : ℕ)
    → Tiles units blocks order → level ≤ found
    → IsListed order found (first_or (listed order found) 0)
    → Holding units blocks
    (record {
      order = (piece_got order level found).order;
      level = level;
      place = first_or (listed order found) 0;
    })
got_holds units blocks order level found tiles le is =
    let first : DetachedPiece = first_taken order found in
    let last : DetachedPiece = piece_got order level found in
    let holding = halved_often_holds units blocks (found - level) first (omega arith)
    (holds_taken units blocks order found (first_or (listed order found) 0) tiles is) in
    let counts = halved_often_level (found - level) first (omega arith) in
    let level_is : last.level ≡ level = omega (arith, counts) in
    subst (λ (p : ℕ). Holding units blocks (record { order = last.order; level = level; place = p }))
    (halved_often_place (found - level) first)
    (subst (λ (k : ℕ). Holding units blocks
    (record { order = last.order; level = k; place = last.place })) level_is holding)

pub got_tiles : (units : ℕ) (blocks : Blocks) (order : Order) (level found : ℕ)
    → Fits units blocks → Tiles units blocks order → level ≤ found
    → IsListed order found (first_or (listed order found) 0)
    → Tiles units
    (map.insert blocks (first_or (listed order found) 0) (replicate (2 ^ level) 0))
    (piece_got order level found).order
got_tiles units blocks order level found fits tiles le is =
    detached_is_block units blocks (piece_got order level found).order level
    (first_or (listed order found) 0) (replicate (2 ^ level) 0) fits (length-replicate (2 ^ level) 0)
    (got_holds units blocks order level found tiles le is)

pub freed_tiles : (units : ℕ) (blocks : Blocks) (order : Order) (place : ℕ) (words : List ℕ)
    → Fits units blocks → Tiles units blocks order → map.get blocks place ≡ Some words
    → Tiles units (map.remove blocks place)
    (put_back (piece_freed order (level_at blocks place) place))
freed_tiles units blocks order place words fits tiles is =
    let block = fits.each place words is in
    let level : level_at blocks place ≡ block.level
    = level_at_is blocks place block.level words block.is_aligned.small is block.size in
    let first : DetachedPiece = record { order = order; level = block.level; place = place } in
    let detached = block_is_detached units blocks order block.level place words fits tiles is block.size
    block.is_aligned in
    let sum : block.level + (largest_level - block.level) ≡ largest_level
    = omega (arith, block.is_aligned.small) in
    let done = joined_often_holds units (map.remove blocks place) (largest_level - block.level) first
    (omega (arith, sum)) detached in
    subst (λ (k : ℕ). Tiles units (map.remove blocks place) (put_back (piece_freed order k place)))
    (sym level)
    (holds_released units (map.remove blocks place) (piece_freed order block.level place) done.holds
    (λ less. done.alone (omega (arith, sum))))

-- ---- whole units
-- where there is no block, each unit is free
pub units_whole : (units : ℕ) (blocks : Blocks) (order : Order) → Tiles units blocks order
    → ((at : ℕ) → LiesIn blocks at → ⊥) → (number : ℕ) → number < units
    → IsListed order largest_level (unit_size * number + unit_size)
units_whole units blocks order tiles empty number below =
    let place : ℕ = unit_size * number + unit_size in
    let product : place ≡ (number + 1) * 2 ^ largest_level = omega arith in
    let aligned : place % 2 ^ largest_level ≡ 0
    = ap (λ (p : ℕ). p % 2 ^ largest_level) product ∙ times_size (number + 1) largest_level in
    let is : IsOpen units blocks (2 ^ largest_level) place = record {
      aligned = aligned;
      above = omega arith;
      within = omega arith;
      free = λ start words at found from before low.
          elim (cases_lt at (start + length words)) as (λ _. start + length words ≤ at) [
            | inl inside ↦
                absurd (empty at (record {
                  start = start;
                  words = words;
                  is = found;
                  from = low;
                  below = inside;
                }))
            | inr past ↦ past
          ];
    } in
    let large = large_piece units blocks order tiles largest_level place (omega arith) is in
    let is_aligned = tiles.is_aligned large.size large.place large.is in
    let size : large.size ≡ largest_level = omega (arith, large.enough, is_aligned.small) in
    let sizes : 2 ^ large.size ≡ 2 ^ largest_level = ap (λ (k : ℕ). 2 ^ k) size in
    let there : large.place ≡ place
    = same_multiple (2 ^ largest_level) large.place place
    (ap (λ (s : ℕ). large.place % s) (sym sizes) ∙ is_aligned.aligned) aligned large.from
    (omega (arith, large.before, sizes)) in
    subst (λ (k : ℕ). IsListed order k place) size
    (subst (λ (p : ℕ). IsListed order large.size p) there large.is)

-- ---- moves
moves_few_by : (level : ℕ) → level ≤ largest_level → (order : Order) (found : Option ℕ)
    → Found order level found → unwrap_or found level - level ≤ largest_level
unfolding Found
moves_few_by level small order (Some found) is = omega (arith, is.1)
moves_few_by level small order None none = omega arith

pub moves_few_got : (order : Order) (level : ℕ) → level ≤ largest_level
    → unwrap_or (level_found order level) level - level ≤ largest_level
moves_few_got order level small =
    moves_few_by level small order (level_found order level) (level_is_found order level)

pub moves_few_freed : (order : Order) (level place : ℕ)
    → (piece_freed order level place).level - level ≤ largest_level
moves_few_freed order level place =
    omega (
      arith,
      joined_often_level (largest_level - level)
          (record { order = order; level = level; place = place }),
    )
