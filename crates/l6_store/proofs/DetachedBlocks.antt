-- A detached piece becomes a block, and a block a detached piece.
use Rattle.std.proofs.Common.{◌≡◌, ◌≢◌, ℕ, ◌+◌, ◌^◌, ◌<◌, ◌≤◌, List, length, Option, Some, None, refl, ap, sym, ◌∙◌, arith, inl, inr, ◌⊎◌}
use Rattle.std.proofs.lemmas.Bool.{cases_lt, cases_eq}
use Rattle.std.proofs.lemmas.Nat.{pow_pos}
use Rattle.std.specs.FinMap as map
use Rattle.l6_store.specs.Blocks.{Blocks, Fits, LiesIn, IsAlignedPlace}
use Rattle.l6_store.specs.Rule.{Order}
use Rattle.l6_store.specs.Buddy.{DetachedPiece}
use Rattle.l6_store.specs.Tiles.{holds, held, Tiles}
use Rattle.l6_store.specs.inner.Detached.{Holding}
use Rattle.l6_store.proofs.Gathered.{get_insert_same, get_insert_other, get_remove_same, get_remove_other}
use Rattle.l6_store.proofs.Counts.{within, outside, which_holds}
use Rattle.l6_store.proofs.Detached.{detached_beside, detached_unheld}

-- a word of another block is one still
pub lies_insert : (blocks : Blocks) (place : ℕ) (words : List ℕ)
    → map.get blocks place ≡ None → (at : ℕ) → LiesIn blocks at
    → LiesIn (map.insert blocks place words) at
lies_insert blocks place words none at lies = record {
  start = lies.start;
  words = lies.words;
  is = get_insert_other blocks place words lies.start
      (λ same. (let is = lies.is in let was = ap (map.get blocks) same in cc))
      ∙ lies.is;
  from = lies.from;
  below = lies.below;
}

-- a word of a block lies in the new one or in another
pub insert_lies : (blocks : Blocks) (place : ℕ) (words : List ℕ) (at : ℕ)
    → LiesIn (map.insert blocks place words) at
    → ((place ≤ at) × (at < place + length words)) ⊎ LiesIn blocks at
insert_lies blocks place words at lies =
    elim (cases_eq lies.start place)
    as (λ _. ((place ≤ at) × (at < place + length words)) ⊎ LiesIn blocks at) [
      | inl same ↦
          let found : map.get (map.insert blocks place words) place ≡ Some lies.words
          = ap (map.get (map.insert blocks place words)) (sym same) ∙ lies.is in
          let new : Some words ≡ Some lies.words
          = sym (get_insert_same blocks place words) ∙ found in
          let words_are : words ≡ lies.words = cc in
          let counts : length words ≡ length lies.words
          = ap (λ (ws : List ℕ). length ws) words_are in
          inl (omega (arith, same, lies.from), omega (arith, same, lies.below, counts))
      | inr other ↦ inr (record {
        start = lies.start;
        words = lies.words;
        is = sym (get_insert_other blocks place words lies.start other) ∙ lies.is;
        from = lies.from;
        below = lies.below;
      })
    ]

none_at : (blocks : Blocks) (place size : ℕ) (found : Option (List ℕ))
    → map.get blocks place ≡ found → ((words : List ℕ) → found ≡ Some words → 0 < length words)
    → (LiesIn blocks place → ⊥) → map.get blocks place ≡ None
none_at blocks place size None is some not = is
none_at blocks place size (Some words) is some not =
    absurd (not (record {
      start = place;
      words = words;
      is = is;
      from = omega arith;
      below = omega (arith, some words refl);
    }))

-- where no block has a word, none begins
pub no_block : (units : ℕ) (blocks : Blocks) → Fits units blocks → (place : ℕ)
    → (LiesIn blocks place → ⊥) → map.get blocks place ≡ None
no_block units blocks fits place not =
    none_at blocks place 0 (map.get blocks place) refl
    (λ words is. (let block =
    fits.each place words is in omega (arith, block.size, pow_pos block.level)))
    not

-- the detached piece becomes a block
pub detached_is_block : (units : ℕ) (blocks : Blocks) (order : Order) (level place : ℕ) (words : List ℕ)
    → Fits units blocks → length words ≡ 2 ^ level
    → Holding units blocks (record { order = order; level = level; place = place })
    → Tiles units (map.insert blocks place words) order
detached_is_block units blocks order level place words fits size holding =
    let detached : DetachedPiece = record { order = order; level = level; place = place } in
    let none : map.get blocks place ≡ None = no_block units blocks fits place
    (detached_beside units blocks detached holding place (omega arith)
    (omega (arith, pow_pos level))) in
    record {
      lists = holding.pieces.lists;
      is_aligned = holding.pieces.is_aligned;
      whole = holding.pieces.whole;
      apart = λ at lies.
          elim (insert_lies blocks place words at lies) as (λ _. held order at ≡ 0) [
            | inl (from, before) ↦ detached_unheld units blocks detached holding at from (omega arith)
            | inr old ↦ omega (arith, holding.fills.apart at old)
          ];
      once = λ at from before not.
          elim (which_holds at (2 ^ level) place) as (λ _. held order at ≡ 1) [
            | within low high one ↦
                absurd (not (record {
                  start = place;
                  words = words;
                  is = get_insert_same blocks place words;
                  from = low;
                  below = omega arith;
                }))
            | outside out zeros ↦
                omega (
                  arith,
                  zeros,
                  holding.fills.once at from before
                      (λ lies. not (lies_insert blocks place words none at lies)),
                )
          ];
    }

-- a block becomes a detached piece
pub block_is_detached : (units : ℕ) (blocks : Blocks) (order : Order) (level place : ℕ) (words : List ℕ)
    → Fits units blocks → Tiles units blocks order → map.get blocks place ≡ Some words
    → length words ≡ 2 ^ level → IsAlignedPlace units level place
    → Holding units (map.remove blocks place)
    (record { order = order; level = level; place = place })
block_is_detached units blocks order level place words fits tiles is size is_aligned =
    let lies_there : (at : ℕ) → place ≤ at → at < place + 2 ^ level → LiesIn blocks at
    = λ (at : ℕ) (from : place ≤ at) (before : at < place + 2 ^ level). record {
      start = place;
      words = words;
      is = is;
      from = from;
      below = omega arith;
    } in
    let old_of : (at : ℕ) → LiesIn (map.remove blocks place) at
    → ((start : ℕ) × (found : List ℕ) × (start ≢ place) × (map.get blocks start ≡ Some found)
    × (start ≤ at) × (at < start + length found))
    = λ (at : ℕ) (lies : LiesIn (map.remove blocks place) at).
    let other : lies.start ≢ place
    = λ same. (let found = lies.is in let gone = get_remove_same blocks place in
    let there = ap (map.get (map.remove blocks place)) same in cc) in (
      lies.start,
      lies.words,
      other,
      sym (get_remove_other blocks place lies.start other) ∙ lies.is,
      lies.from,
      lies.below,
    ) in
    record {
      pieces = record { lists = tiles.lists; is_aligned = tiles.is_aligned; whole = tiles.whole };
      is_aligned = is_aligned;
      fills = record {
        apart = λ at lies.
            let old = old_of at lies in
            let was : LiesIn blocks at
            = record { start = old.0; words = old.1; is = old.3; from = old.4; below = old.5 } in
            elim (which_holds at (2 ^ level) place)
            as (λ _. held order at + holds at (2 ^ level) place ≡ 0) [
              | within low high one ↦
                  elim (cases_lt old.0 place)
                  as (λ _. held order at + holds at (2 ^ level) place ≡ 0) [
                    | inl lower ↦
                        absurd (omega (
                          arith,
                          fits.apart old.0 place old.1 words old.3 is lower,
                          old.5,
                        ))
                    | inr upper ↦
                        absurd (omega (
                          arith,
                          size,
                          old.4,
                          fits.apart place old.0 words old.1 is old.3
                              (omega (arith, old.2, upper)),
                        ))
                  ]
              | outside out zeros ↦ omega (arith, zeros, tiles.apart at was)
            ];
        once = λ at from before not.
            elim (which_holds at (2 ^ level) place)
            as (λ _. held order at + holds at (2 ^ level) place ≡ 1) [
              | within low high one ↦ omega (arith, one, tiles.apart at (lies_there at low high))
              | outside out zeros ↦
                  omega (
                    arith,
                    zeros,
                    tiles.once at from before (λ lies.
                        not (record {
                          start = lies.start;
                          words = lies.words;
                          is = get_remove_other blocks place lies.start (λ same.
                              let found : Some lies.words ≡ Some words
                              = sym lies.is ∙ ap (map.get blocks) same ∙ is in
                              let words_are : lies.words ≡ words = cc in
                              let counts : length lies.words ≡ length words
                              = ap (λ (ws : List ℕ). length ws) words_are in
                              out (omega (arith, same, lies.from))
                              (omega (arith, same, lies.below, counts, size)))
                              ∙ lies.is;
                          from = lies.from;
                          below = lies.below;
                        })),
                  )
            ];
      };
    }
