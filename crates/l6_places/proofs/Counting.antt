-- How many places the blocks of a board have.
use Rattle.std.proofs.Common.{◌≡◌, ℕ, zero, suc, ◌+◌, ◌*◌, ◌^◌, ◌<◌, ◌≤◌, List, length, slice_index, refl, ap, sym, arith}
use Rattle.std.specs.Prelude.{slice_set, replicate, [], ◌∷◌, Option, Some}
use Rattle.std.specs.Option.{unwrap_or}
use Rattle.std.proofs.lemmas.Nat.{pow_pos, mul-le}
use Rattle.l6_places.specs.Board.{Board, Begins, IsOpen, level_of, taken, released, places_of, places_in}
use Rattle.l6_places.specs.inner.Tree.{IsTold}
use Rattle.l6_places.proofs.Multiples.{size_le}

-- one mark is set
places_set : (marks : List ℕ) (place mark : ℕ) → place < length marks
    → places_in (slice_set marks place mark) + places_of (slice_index marks place)
    ≡ places_in marks + places_of mark
places_set [] place mark less = absurd (omega (arith, less))
places_set (x ∷ marks) zero mark less = omega arith
places_set (x ∷ marks) (suc place) mark less = omega (arith, places_set marks place mark (omega (arith, less)))

-- no block has more places than all have
places_at : (marks : List ℕ) (place : ℕ) → places_of (slice_index marks place) ≤ places_in marks
places_at [] place = omega arith
places_at (x ∷ marks) zero = omega arith
places_at (x ∷ marks) (suc place) = omega (arith, places_at marks place)

-- there are no more than each place may have
places_most : (marks : List ℕ) (most : ℕ)
    → ((place : ℕ) → places_of (slice_index marks place) ≤ most)
    → places_in marks ≤ length marks * most
places_most [] most each = omega arith
places_most (x ∷ marks) most each =
    omega (arith, each 0, places_most marks most (λ place. each (suc place)))

pub no_places : (count : ℕ) → places_in (replicate count 0) ≡ 0
no_places zero = refl
no_places (suc count) = omega (arith, no_places count)

-- what a mark says of a block
mark_size : (mark level : ℕ) → mark ≡ suc level → places_of mark ≡ 2 ^ level
mark_size mark level is = ap places_of is

size_most : (top mark : ℕ) → top ≤ 24 → ((level : ℕ) → mark ≡ suc level → level ≤ top)
    → places_of mark ≤ 16777216
size_most top zero small each = omega arith
size_most top (suc level) small each = size_le level 24 (omega (arith, small, each level refl))

pub few_places : (b : Board) (tree : List ℕ) → IsTold b tree → b.top ≤ 24
    → places_in b.marks ≤ 16777216 * 16777216
few_places b tree told small =
    let all = places_most b.marks 16777216 (λ place. size_most b.top (slice_index b.marks place) small
    (λ level begins. (told.fits.each place level begins).small)) in
    let size = size_le b.top 24 small in
    omega (arith, all, mul-le (length b.marks) 16777216 16777216 16777216 (omega (arith, size, told.marked)) (omega arith))

-- a block is taken
no_mark : (b : Board) (level place mark : ℕ) → IsOpen b (2 ^ level) place
    → mark ≡ slice_index b.marks place → places_of mark ≡ 0
no_mark b level place zero is_open is = refl
no_mark b level place (suc other) is_open is =
    absurd (omega (
      arith,
      pow_pos other,
      is_open.free place other place (sym is) (omega arith) (omega (arith, pow_pos level)) (omega arith),
    ))

pub count_taken : (b : Board) (tree : List ℕ) → IsTold b tree → (level place : ℕ)
    → IsOpen b (2 ^ level) place → places_in (taken b level place).marks ≡ places_in b.marks + 2 ^ level
count_taken b tree told level place is_open =
    omega (
      arith,
      no_mark b level place (slice_index b.marks place) is_open refl,
      places_set b.marks place (suc level)
          (omega (arith, told.marked, told.low, is_open.within, pow_pos level)),
    )

-- and one is released
pub count_released : (b : Board) (tree : List ℕ) → IsTold b tree → (level place : ℕ)
    → Begins b.marks place level
    → places_in (released b place).marks + 2 ^ level ≡ places_in b.marks
count_released b tree told level place begins =
    omega (
      arith,
      mark_size (slice_index b.marks place) level begins,
      places_set b.marks place 0
          (omega (arith, told.marked, told.low, (told.fits.each place level begins).within, pow_pos level)),
    )

-- a mark that tells of a block
pub level_tells : (mark level : ℕ) → level_of mark ≡ Some level → mark ≡ suc level
level_tells zero level is = absurd (cc is)
level_tells (suc mark) level is = ap (λ (o : Option ℕ). suc (unwrap_or o 0)) is
