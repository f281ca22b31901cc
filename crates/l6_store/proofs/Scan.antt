-- The plain rule picks the lowest open place, and none exactly where no place is open.
use Rattle.std.proofs.Common.{◌≡◌, ℕ, ◌+◌, ◌%◌, ◌^◌, ◌<◌, ◌≤◌, max, List, length, true, ◌&&◌, nat_le, Option, Some, None, refl, ap, arith, eq-eqb, ◌==◌}
use Rattle.std.proofs.lemmas.Bool.{leb-true, le-leb, eqb-true}
use Rattle.std.proofs.lemmas.Nat.{pow_pos}
use Rattle.std.specs.FinMap as map
use Rattle.l6_word.specs.Numerals.{unit_size}
use Rattle.l6_store.specs.Blocks.{Blocks, end_of}
use Rattle.l6_store.specs.Open.{IsOpen, IsAnswer}
use Rattle.l6_store.specs.Scan.{leaves, is_open, all_below}
use Rattle.l6_store.specs.Least.{least}
use Rattle.l6_store.specs.Laws.{ScanChooses, ScanPicksTheLowest}
use Rattle.l6_store.proofs.Least.{and_both, Answers, all_below_holds, all_below_made, least_answers}

-- what a block leaves free
leaves_holds : (place start at : ℕ) (words : List ℕ) (found : Option (List ℕ)) → found ≡ Some words
    → leaves place start found ≡ true
    → place ≤ at → start ≤ at → start + length words ≤ at
leaves_holds place start at words (Some others) is test from after =
    let same : others ≡ words = cc in
    let counts : length others ≡ length words = ap length same in
    omega (arith, leb-true (start + length others) (max place start) test)
leaves_holds place start at words None is test from after = cc

leaves_made : (place start size : ℕ) (found : Option (List ℕ)) → 0 < size → start < place + size
    → ((words : List ℕ) (at : ℕ) → found ≡ Some words → place ≤ at → at < place + size → start ≤ at
    → start + length words ≤ at)
    → leaves place start found ≡ true
leaves_made place start size None some before free = refl
leaves_made place start size (Some words) some before free =
    le-leb (start + length words) (max place start)
    (free words (max place start) refl (omega arith) (omega arith) (omega arith))

-- the test says what it should
pub is_open_holds : (units : ℕ) (blocks : Blocks) (size place : ℕ)
    → is_open units blocks size place ≡ true → IsOpen units blocks size place
unfolding is_open
is_open_holds units blocks size place test =
    let clear = all_below (place + size) (λ start. leaves place start (map.get blocks start)) in
    let last
    = and_both (place % size == 0 && nat_le unit_size place && nat_le (place + size) (end_of units))
    clear test in
    let third
    = and_both (place % size == 0 && nat_le unit_size place) (nat_le (place + size) (end_of units))
    last.0 in
    let second = and_both (place % size == 0) (nat_le unit_size place) third.0 in
    record {
      aligned = eqb-true (place % size) 0 second.0;
      above = leb-true unit_size place second.1;
      within = leb-true (place + size) (end_of units) third.1;
      free = λ start words at is from before after.
          leaves_holds place start at words (map.get blocks start) is
          (all_below_holds (place + size) (λ s. leaves place s (map.get blocks s)) last.1 start
          (omega arith)) from after;
    }

pub is_open_made : (units : ℕ) (blocks : Blocks) (size place : ℕ) → 0 < size
    → IsOpen units blocks size place → is_open units blocks size place ≡ true
unfolding is_open
is_open_made units blocks size place some is_aligned =
    let clear : all_below (place + size) (λ s. leaves place s (map.get blocks s)) ≡ true
    = all_below_made (place + size) (λ s. leaves place s (map.get blocks s))
    (λ start before. leaves_made place start size (map.get blocks start) some before
    (λ words at is. is_aligned.free start words at is)) in
    let first = eq-eqb (place % size) 0 is_aligned.aligned in
    let second = le-leb unit_size place is_aligned.above in
    let third = le-leb (place + size) (end_of units) is_aligned.within in
    cc

-- the pick answers
pub scan_answers : (units : ℕ) (blocks : Blocks) (size : ℕ) → 0 < size → (answer : Option ℕ)
    → Answers (end_of units) (is_open units blocks size) answer → IsAnswer units blocks size answer
unfolding Answers
scan_answers units blocks size some (Some place) is = is_open_holds units blocks size place is.1
scan_answers units blocks size some None none = λ place is_aligned.
    let closed = none place (let w = is_aligned.within in omega arith) in
    let test = is_open_made units blocks size place some is_aligned in
    cc

pub scan_chooses : ScanChooses
scan_chooses units blocks order level small =
    scan_answers units blocks (2 ^ level) (pow_pos level)
    (least (end_of units) (is_open units blocks (2 ^ level)))
    (least_answers (end_of units) (is_open units blocks (2 ^ level)))

picked_lowest : (units : ℕ) (blocks : Blocks) (size : ℕ) → 0 < size → (answer : Option ℕ)
    → Answers (end_of units) (is_open units blocks size) answer → (place lower : ℕ)
    → answer ≡ Some place → lower < place
    → IsOpen units blocks size lower → ⊥
unfolding Answers
picked_lowest units blocks size some (Some found) is place lower same below is_aligned =
    let there : found ≡ place = cc in
    let closed = is.2 lower (omega arith) in
    let test = is_open_made units blocks size lower some is_aligned in
    cc
picked_lowest units blocks size some None none place lower same below is_aligned = cc

pub scan_picks_the_lowest : ScanPicksTheLowest
scan_picks_the_lowest units blocks order level place lower =
    picked_lowest units blocks (2 ^ level) (pow_pos level)
    (least (end_of units) (is_open units blocks (2 ^ level)))
    (least_answers (end_of units) (is_open units blocks (2 ^ level))) place lower
