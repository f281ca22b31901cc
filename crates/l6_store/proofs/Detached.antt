-- The steps of a detached piece: taken, halved, joined and put back.
use Rattle.std.proofs.Common.{◌≡◌, ℕ, suc, ◌+◌, ◌-◌, ◌%◌, ◌^◌, ◌<◌, ◌≤◌, ap, sym, ◌∙◌, subst, arith, inl, inr, ◌⊎◌}
use Rattle.std.proofs.lemmas.Nat.{pow_pos}
use Rattle.l6_word.specs.Numerals.{largest_level, unit_size}
use Rattle.l6_store.specs.Blocks.{Blocks, LiesIn, IsAlignedPlace, end_of}
use Rattle.l6_store.specs.Rule.{Order}
use Rattle.l6_store.specs.Buddy.{DetachedPiece, has, listed, IsListed, in_front, taken_out, buddy_of, whole_of, halved, joined, put_back}
use Rattle.l6_store.specs.Tiles.{holds, held, Tiles}
use Rattle.l6_store.specs.inner.Detached.{ArePieces, Fills, Holding}
use Rattle.l6_store.proofs.Multiples.{double, is_lower, is_upper, which_half, multiple_down, multiple_next, buddy_of_lower, buddy_of_upper, whole_of_lower, whole_of_upper}
use Rattle.l6_store.proofs.Counts.{holds_within, halves_hold, held_in_front, held_taken_out, piece_counts}
use Rattle.l6_store.proofs.ListedPieces.{pieces_taken, pieces_in_front}

-- ---- a detached piece has its words for itself
pub detached_beside : (units : ℕ) (blocks : Blocks) (detached : DetachedPiece) →
    Holding units blocks detached
    → (at : ℕ) → detached.place ≤ at → at < detached.place + 2 ^ detached.level → LiesIn blocks at → ⊥
detached_beside units blocks detached holding at from before lies =
    omega (
      arith,
      holding.fills.apart at lies,
      holds_within at
          (2 ^ detached.level) detached.place from before,
    )

pub detached_unheld : (units : ℕ) (blocks : Blocks) (detached : DetachedPiece) →
    Holding units blocks detached
    → (at : ℕ) → detached.place ≤ at → at < detached.place + 2 ^ detached.level →
    held detached.order at ≡ 0
detached_unheld units blocks detached holding at from before =
    omega (
      arith,
      holding.fills.once at (omega (arith, holding.is_aligned.above))
          (omega (arith, holding.is_aligned.within))
          (detached_beside units blocks detached holding at from before),
      holds_within at (2 ^ detached.level) detached.place from before,
    )

-- so no free piece begins in it
pub detached_unlisted : (units : ℕ) (blocks : Blocks) (detached : DetachedPiece) →
    Holding units blocks detached
    → (k at : ℕ) → detached.place ≤ at → at < detached.place + 2 ^ detached.level
    → IsListed detached.order k at → ⊥
detached_unlisted units blocks detached holding k at from before is =
    let is_aligned = holding.pieces.is_aligned k at is in
    omega (
      arith,
      detached_unheld units blocks detached holding at from before,
      piece_counts detached.order k at at holding.pieces.lists is_aligned.small is (omega arith)
          (omega (arith, pow_pos k)),
    )

-- ---- the steps
fills_alike : (units : ℕ) (blocks : Blocks) (old new : ℕ → ℕ) → ((at : ℕ) → new at ≡ old at)
    → Fills units blocks old → Fills units blocks new
fills_alike units blocks old new same fills = record {
  apart = λ at lies. same at ∙ fills.apart at lies;
  once = λ at from before none. same at ∙ fills.once at from before none;
}

-- a listed piece is taken
pub holds_taken : (units : ℕ) (blocks : Blocks) (order : Order) (level place : ℕ)
    → Tiles units blocks order → IsListed order level place
    → Holding units blocks
    (record { order = taken_out order level place; level = level; place = place })
holds_taken units blocks order level place tiles is =
    let is_aligned = tiles.is_aligned level place is in
    let pieces : ArePieces units order
    = record { lists = tiles.lists; is_aligned = tiles.is_aligned; whole = tiles.whole } in
    record {
      pieces = pieces_taken units order level place is_aligned.small pieces;
      is_aligned = is_aligned;
      fills = record {
        apart = λ at lies.
            omega (
              arith,
              tiles.apart at lies,
              held_taken_out order level place at tiles.lists is_aligned.small is,
            );
        once = λ at from before none.
            omega (
              arith,
              tiles.once at from before none,
              held_taken_out order level place at tiles.lists is_aligned.small is,
            );
      };
    }

upper_holds : (units level place : ℕ) → IsAlignedPlace units (suc level) place
    → IsAlignedPlace units level (place + 2 ^ level)
upper_holds units level place is_aligned = record {
  small = omega (arith, is_aligned.small);
  aligned = multiple_next level place
      (multiple_down level (suc level) place (omega arith) is_aligned.aligned);
  above = omega (arith, is_aligned.above);
  within = omega (arith, is_aligned.within, double level);
}

-- a piece is halved
halved_by : (units : ℕ) (blocks : Blocks) (order : Order) (level place : ℕ)
    → Holding units blocks (record { order = order; level = suc level; place = place })
    → Holding units blocks
    (record { order = in_front order level (place + 2 ^ level); level = level; place = place })
halved_by units blocks order level place holding =
    let detached : DetachedPiece = record { order = order; level = suc level; place = place } in
    let upper = upper_holds units level place holding.is_aligned in
    record {
      pieces = pieces_in_front units order level (place + 2 ^ level) holding.pieces upper
          (λ less is. detached_unlisted units blocks detached holding level place (omega arith)
          (omega (arith, pow_pos (suc level)))
          (ap (λ (q : ℕ). has q (listed order level))
          (sym (buddy_of_upper level place holding.is_aligned.aligned)) ∙ is));
      is_aligned = record {
        small = omega (arith, holding.is_aligned.small);
        aligned = multiple_down level (suc level) place (omega arith) holding.is_aligned.aligned;
        above = holding.is_aligned.above;
        within = omega (arith, holding.is_aligned.within, double level);
      };
      fills = fills_alike units blocks (λ at. held order at + holds at (2 ^ suc level) place)
          (λ at. held (in_front order level (place + 2 ^ level)) at + holds at (2 ^ level) place)
          (λ at.
          let sizes : holds at (2 ^ suc level) place ≡ holds at (2 ^ level + 2 ^ level) place
          = ap (λ (s : ℕ). holds at s place) (double level) in
          omega (
            arith,
            sizes,
            halves_hold at (2 ^ level) place,
            held_in_front order level (place + 2 ^ level) at holding.pieces.lists upper.small,
          ))
          holding.fills;
    }

pub holds_halved : (units : ℕ) (blocks : Blocks) (detached : DetachedPiece) → 0 < detached.level
    → Holding units blocks detached → Holding units blocks (halved detached)
holds_halved units blocks detached some holding =
    let next : detached.level ≡ suc (detached.level - 1) = omega arith in
    halved_by units blocks detached.order (detached.level - 1) detached.place
    (subst (λ (k : ℕ). Holding units blocks
    (record { order = detached.order; level = k; place = detached.place })) next holding)

-- a piece is joined with its buddy, of which it is the lower or the upper half
joined_by : (units : ℕ) (blocks : Blocks) (order : Order) (level place buddy whole : ℕ)
    → level < largest_level
    → Holding units blocks (record { order = order; level = level; place = place })
    → IsListed order level buddy → whole % 2 ^ suc level ≡ 0
    → ((place ≡ whole) × (buddy ≡ whole + 2 ^ level)) ⊎ ((buddy ≡ whole) × (place ≡ whole + 2 ^ level))
    → Holding units blocks
    (record { order = taken_out order level buddy; level = suc level; place = whole })
joined_by units blocks order level place buddy whole less holding is aligned halves =
    let other = holding.pieces.is_aligned level buddy is in
    record {
      pieces = pieces_taken units order level buddy other.small holding.pieces;
      is_aligned = record {
        small = omega arith;
        aligned = aligned;
        above = elim halves as (λ _. unit_size ≤ whole) [
          | inl (here, there) ↦ omega (arith, here, holding.is_aligned.above)
          | inr (here, there) ↦ omega (arith, here, other.above)
        ];
        within = elim halves as (λ _. whole + 2 ^ suc level ≤ end_of units) [
          | inl (here, there) ↦ omega (arith, there, other.within, double level)
          | inr (here, there) ↦ omega (arith, there, holding.is_aligned.within, double level)
        ];
      };
      fills = fills_alike units blocks (λ at. held order at + holds at (2 ^ level) place)
          (λ at. held (taken_out order level buddy) at + holds at (2 ^ suc level) whole)
          (λ at.
          let sizes : holds at (2 ^ suc level) whole ≡ holds at (2 ^ level + 2 ^ level) whole
          = ap (λ (s : ℕ). holds at s whole) (double level) in
          let counts = held_taken_out order level buddy at holding.pieces.lists other.small is in
          let parts = halves_hold at (2 ^ level) whole in
          elim halves as (λ _. held (taken_out order level buddy) at + holds at (2 ^ suc level) whole
          ≡ held order at + holds at (2 ^ level) place) [
            | inl (here, there) ↦
                let one : holds at (2 ^ level) place ≡ holds at (2 ^ level) whole
                = ap (holds at (2 ^ level)) here in
                let two : holds at (2 ^ level) buddy ≡ holds at (2 ^ level) (whole + 2 ^ level)
                = ap (holds at (2 ^ level)) there in
                omega (arith, sizes, counts, parts, one, two)
            | inr (here, there) ↦
                let one : holds at (2 ^ level) buddy ≡ holds at (2 ^ level) whole
                = ap (holds at (2 ^ level)) here in
                let two : holds at (2 ^ level) place ≡ holds at (2 ^ level) (whole + 2 ^ level)
                = ap (holds at (2 ^ level)) there in
                omega (arith, sizes, counts, parts, one, two)
          ])
          holding.fills;
    }

pub holds_joined : (units : ℕ) (blocks : Blocks) (detached : DetachedPiece) →
    detached.level < largest_level
    → Holding units blocks detached
    → IsListed detached.order detached.level (buddy_of detached.level detached.place)
    → Holding units blocks (joined detached)
holds_joined units blocks detached less holding is =
    elim (which_half detached.level detached.place holding.is_aligned.aligned)
    as (λ _. Holding units blocks (joined detached)) [
      | is_lower lower ↦
          joined_by units blocks detached.order detached.level detached.place
          (buddy_of detached.level detached.place)
          (whole_of detached.level detached.place) less holding is
          (ap (λ (p : ℕ). p % 2 ^ suc detached.level)
          (whole_of_lower detached.level detached.place lower) ∙ lower)
          (inl (
            sym (whole_of_lower detached.level detached.place lower),
            buddy_of_lower detached.level detached.place lower
                ∙ ap (λ (p : ℕ). p + 2 ^ detached.level)
                (sym (whole_of_lower detached.level detached.place lower)),
          ))
      | is_upper lower multiple at ↦
          let whole : whole_of detached.level detached.place ≡ lower
          = ap (whole_of detached.level) at ∙ whole_of_upper detached.level lower multiple in
          let buddy : buddy_of detached.level detached.place ≡ lower
          = ap (buddy_of detached.level) at ∙ buddy_of_upper detached.level lower multiple in
          joined_by units blocks detached.order detached.level detached.place
          (buddy_of detached.level detached.place)
          (whole_of detached.level detached.place) less holding is
          (ap (λ (p : ℕ). p % 2 ^ suc detached.level) whole ∙ multiple)
          (inr (buddy ∙ sym whole, at ∙ ap (λ (p : ℕ). p + 2 ^ detached.level) (sym whole)))
    ]

-- a piece is put back
pub holds_released : (units : ℕ) (blocks : Blocks) (detached : DetachedPiece) →
    Holding units blocks detached
    → (detached.level < largest_level →
    IsListed detached.order detached.level (buddy_of detached.level detached.place)
    → ⊥)
    → Tiles units blocks (put_back detached)
holds_released units blocks detached holding alone =
    let pieces = pieces_in_front units detached.order detached.level detached.place holding.pieces
    holding.is_aligned alone in
    record {
      lists = pieces.lists;
      is_aligned = pieces.is_aligned;
      whole = pieces.whole;
      apart = λ at lies.
          omega (
            arith,
            holding.fills.apart at lies,
            held_in_front detached.order detached.level detached.place at holding.pieces.lists
                holding.is_aligned.small,
          );
      once = λ at from before none.
          omega (
            arith,
            holding.fills.once at from before none,
            held_in_front detached.order detached.level detached.place at holding.pieces.lists
                holding.is_aligned.small,
          );
    }
