-- The loops that halve a piece and join it, a step at a time.
use Rattle.std.proofs.Common.{◌≡◌, ℕ, zero, suc, ◌+◌, ◌-◌, ◌*◌, ◌%◌, ◌^◌, ◌<◌, ◌≤◌, Bool, true, false, min, Option, Some, None, refl, ap, sym, ◌∙◌, subst, arith, inl, inr, ◌&&◌, nat_le}
use Rattle.std.proofs.lemmas.Bool.{cases_lt, le-leb, lt-leb}
use Rattle.std.proofs.lemmas.Nat.{pow_pos}
use Rattle.std.specs.Option.{MatchOption, is_some}
use Rattle.l6_word.specs.Numerals.{largest_level, unit_size}
use Rattle.l6_store.specs.Blocks.{Blocks, IsAlignedPlace, end_of}
use Rattle.l6_store.specs.Rule.{Order}
use Rattle.l6_store.specs.Buddy.{DetachedPiece, has, listed, IsListed, buddy_of, first_of, halved, halved_often, joined, joined_often, level_found, taken_out, whole_of}
use Rattle.l6_store.specs.Least.{least}
use Rattle.l6_store.specs.inner.Detached.{HalvesPiece, IsDetached, JoinsPiece}
use Rattle.l6_store.proofs.Least.{Answers, least_answers, answers_alone}
use Rattle.l6_store.proofs.Multiples.{is_lower, is_upper, which_half, same_multiple, multiple_down, multiple_next, times_size, double, buddy_of_lower, buddy_of_upper, whole_of_lower, whole_of_upper}
use Rattle.l6_store.proofs.Detached.{holds_halved, holds_joined}
use Rattle.l6_store.proofs.Steps.{joined_often_more, joined_often_done}

-- ---- where a buddy is
-- multiples of a size that differ are a size apart
apart : (size p q : ℕ) → p % size ≡ 0 → q % size ≡ 0 → p < q → p + size ≤ q
apart size p q first second less =
    elim (cases_lt q (p + size)) as (λ _. p + size ≤ q) [
      | inl near ↦ absurd (omega (arith, same_multiple size p q first second (omega arith) near))
      | inr far ↦ far
    ]

whole_end : (units level : ℕ) → level ≤ largest_level → end_of units % 2 ^ level ≡ 0
whole_end units level small =
    let product : end_of units ≡ (units + 1) * 2 ^ largest_level = omega arith in
    multiple_down level largest_level (end_of units) small
    (ap (λ (p : ℕ). p % 2 ^ largest_level) product ∙ times_size (units + 1) largest_level)

whole_start : (level : ℕ) → level ≤ largest_level → unit_size % 2 ^ level ≡ 0
whole_start level small =
    let product : unit_size ≡ 1 * 2 ^ largest_level = omega arith in
    multiple_down level largest_level unit_size small
    (ap (λ (p : ℕ). p % 2 ^ largest_level) product ∙ times_size 1 largest_level)

pub buddy_holds : (units level place : ℕ) → level < largest_level → IsAlignedPlace units level place
    → IsAlignedPlace units level (buddy_of level place)
buddy_holds units level place less is_aligned =
    elim (which_half level place is_aligned.aligned) as
    (λ _. IsAlignedPlace units level (buddy_of level place)) [
      | is_lower lower ↦
          let far = apart (2 ^ suc level) place (end_of units) lower
          (whole_end units (suc level) (omega arith))
          (omega (arith, is_aligned.within, pow_pos level)) in
          subst (λ (p : ℕ). IsAlignedPlace units level p) (sym (buddy_of_lower level place lower))
          (record {
            small = is_aligned.small;
            aligned = multiple_next level place is_aligned.aligned;
            above = omega (arith, is_aligned.above);
            within = omega (arith, far, double level);
          })
      | is_upper lower multiple at ↦
          subst (λ (p : ℕ). IsAlignedPlace units level p)
          (sym (ap (buddy_of level) at ∙ buddy_of_upper level lower multiple))
          (record {
            small = is_aligned.small;
            aligned = multiple_down level (suc level) lower (omega arith) multiple;
            above = elim (cases_lt lower unit_size) as (λ _. unit_size ≤ lower) [
              | inl below ↦
                  absurd (omega (
                    arith,
                    is_aligned.above,
                    at,
                    double level,
                    pow_pos level,
                    apart (2 ^ suc level) lower unit_size multiple
                        (whole_start (suc level) (omega arith)) below,
                  ))
              | inr above ↦ above
            ];
            within = omega (arith, is_aligned.within, at);
          })
    ]

-- the lower of the two begins the whole
pub min_whole : (level place : ℕ) → place % 2 ^ level ≡ 0
    → min place (buddy_of level place) ≡ whole_of level place
min_whole level place aligned =
    elim (which_half level place aligned)
    as (λ _. min place (buddy_of level place) ≡ whole_of level place) [
      | is_lower lower ↦
          ap (min place) (buddy_of_lower level place lower)
          ∙ (let le : min place (place + 2 ^ level) ≡ place = omega arith in le)
          ∙ sym (whole_of_lower level place lower)
      | is_upper lower multiple at ↦
          ap (λ (p : ℕ). min p (buddy_of level p)) at
          ∙ ap (min (lower + 2 ^ level)) (buddy_of_upper level lower multiple)
          ∙ (let le : min (lower + 2 ^ level) lower ≡ lower = omega arith in le)
          ∙ sym (ap (whole_of level) at ∙ whole_of_upper level lower multiple)
    ]

-- ---- halving
pub halves_first : (units : ℕ) (blocks : Blocks) (level : ℕ) (first : DetachedPiece) →
    level ≤ first.level
    → IsDetached units blocks first → HalvesPiece units blocks level first.level first first 0
halves_first units blocks level first le is_detached =
    record { enough = le; counted = omega arith; is_detached = is_detached; comes = refl }

halved_more : (times : ℕ) (detached : DetachedPiece)
    → halved_often (suc times) detached ≡ halved_often times (halved detached)
unfolding halved_often
halved_more times detached = refl

pub halved_none : (detached : DetachedPiece) → halved_often zero detached ≡ detached
unfolding halved_often
halved_none detached = refl

pub halves_more : (units : ℕ) (blocks : Blocks) (level from : ℕ) (first now : DetachedPiece) (moves : ℕ)
    → level < now.level → HalvesPiece units blocks level from first now moves
    → HalvesPiece units blocks level from first (halved now) (moves + 1)
halves_more units blocks level from first now moves less halves =
    let times : now.level - level ≡ suc (now.level - 1 - level) = omega arith in
    record {
      enough = omega arith;
      counted = omega (arith, halves.counted);
      is_detached = record {
        most = halves.is_detached.most;
        holds = holds_halved units blocks now (omega arith) halves.is_detached.holds;
      };
      comes = sym (halved_more (now.level - 1 - level) now)
          ∙ ap (λ (t : ℕ). halved_often t now) (sym times) ∙ halves.comes;
    }

pub halves_done : (units : ℕ) (blocks : Blocks) (level from : ℕ) (first now : DetachedPiece) (moves : ℕ)
    → now.level ≤ level → HalvesPiece units blocks level from first now moves
    → now ≡ halved_often (from - level) first
halves_done units blocks level from first now moves le halves =
    let none : now.level - level ≡ 0 = omega arith in
    sym (halved_none now) ∙ ap (λ (t : ℕ). halved_often t now) (sym none) ∙ halves.comes

-- ---- joining
joined_none : (detached : DetachedPiece) → joined_often zero detached ≡ detached
unfolding joined_often
joined_none detached = refl

pub joins_first : (units : ℕ) (blocks : Blocks) (first : DetachedPiece) → IsDetached units blocks first
    → JoinsPiece units blocks first.level first first 0
joins_first units blocks first is_detached =
    record { counted = omega arith; is_detached = is_detached; comes = refl }

pub joins_more : (units : ℕ) (blocks : Blocks) (level : ℕ) (first now : DetachedPiece) (moves : ℕ)
    → now.level < largest_level → IsListed now.order now.level (buddy_of now.level now.place)
    → JoinsPiece units blocks level first now moves
    → JoinsPiece units blocks level first (joined now) (moves + 1)
joins_more units blocks level first now moves less is joins =
    let times : largest_level - now.level ≡ suc (largest_level - suc now.level) = omega arith in
    record {
      counted = omega (arith, joins.counted);
      is_detached = record {
        most = joins.is_detached.most;
        holds = holds_joined units blocks now less joins.is_detached.holds is;
      };
      comes = sym (joined_often_more (largest_level - suc now.level) now is)
          ∙ ap (λ (t : ℕ). joined_often t now) (sym times) ∙ joins.comes;
    }

-- the piece joined, as the code has it
pub joins_to : (units : ℕ) (blocks : Blocks) (level : ℕ) (first now : DetachedPiece) (moves : ℕ)
    (order : Order) (to place : ℕ) → order ≡ now.order → to ≡ now.level → place ≡ now.place
    → JoinsPiece units blocks level first now moves
    → JoinsPiece units blocks level first (record { order = order; level = to; place = place }) moves
joins_to units blocks level first now moves order to place orders levels places joins =
    subst (λ (o : Order). JoinsPiece units blocks level first
    (record { order = o; level = to; place = place }) moves) (sym orders)
    (subst (λ (k : ℕ). JoinsPiece units blocks level first
    (record { order = now.order; level = k; place = place }) moves) (sym levels)
    (subst (λ (p : ℕ). JoinsPiece units blocks level first
    (record { order = now.order; level = now.level; place = p }) moves) (sym places) joins))

-- the same, as the code has it
pub joins_step : (units : ℕ) (blocks : Blocks) (level : ℕ) (first now : DetachedPiece) (moves more : ℕ)
    (order : Order) (place : ℕ) → now.level < largest_level
    → IsListed now.order now.level (buddy_of now.level now.place)
    → order ≡ taken_out now.order now.level (buddy_of now.level now.place)
    → place ≡ whole_of now.level now.place → moves + 1 ≡ more
    → JoinsPiece units blocks level first now moves
    → JoinsPiece units blocks level first
    (record { order = order; level = now.level + 1; place = place }) more
joins_step units blocks level first now moves more order place less is orders places counted joins =
    joins_to units blocks level first (joined now) more order (now.level + 1) place orders (omega arith)
    places
    (subst (λ (times : ℕ). JoinsPiece units blocks level first (joined now) times) counted
    (joins_more units blocks level first now moves less is joins))

-- the loop ends at the largest level, or where the buddy is not listed
pub joins_full : (units : ℕ) (blocks : Blocks) (level : ℕ) (first now : DetachedPiece) (moves : ℕ)
    → largest_level ≤ now.level → JoinsPiece units blocks level first now moves
    → now ≡ joined_often (largest_level - level) first
joins_full units blocks level first now moves full joins =
    let none : largest_level - now.level ≡ 0 = omega arith in
    sym (joined_none now) ∙ ap (λ (t : ℕ). joined_often t now) (sym none) ∙ joins.comes

pub joins_alone : (units : ℕ) (blocks : Blocks) (level : ℕ) (first now : DetachedPiece) (moves : ℕ)
    → has (buddy_of now.level now.place) (listed now.order now.level) ≡ false
    → JoinsPiece units blocks level first now moves
    → now ≡ joined_often (largest_level - level) first
joins_alone units blocks level first now moves alone joins =
    sym (joined_often_done (largest_level - now.level) now alone) ∙ joins.comes

-- ---- the level found
not_yet : (order : Order) (level k : ℕ) → (level ≤ k → first_of (listed order k) ≡ None)
    → (nat_le level k && is_some (first_of (listed order k))) ≡ false
not_yet order level k none =
    elim (cases_lt k level)
    as (λ _. (nat_le level k && is_some (first_of (listed order k))) ≡ false) [
      | inl below ↦ ap (λ (b : Bool). b && is_some (first_of (listed order k)))
          (lt-leb level k below)
      | inr from ↦
          ap (λ (b : Bool). b && is_some (first_of (listed order k))) (le-leb level k from)
          ∙ ap (λ (o : Option ℕ). is_some o) (none from)
    ]

found_at : (order : Order) (level found : ℕ) → level ≤ found → found ≤ largest_level
    → is_some (first_of (listed order found)) ≡ true
    → ((k : ℕ) → level ≤ k → k < found → first_of (listed order k) ≡ None)
    → Some found ≡ level_found order level
unfolding level_found Answers
found_at order level found from most some none =
    let test : ℕ → Bool = λ k. nat_le level k && is_some (first_of (listed order k)) in
    let answer : Answers (suc largest_level) test (Some found) = (
      omega arith,
      ap (λ (b : Bool). b && is_some (first_of (listed order found))) (le-leb level found from)
          ∙ some,
      λ k less. not_yet order level k (λ le. none k le less),
    ) in
    answers_alone (suc largest_level) test (Some found) (least (suc largest_level) test) answer
    (least_answers (suc largest_level) test)

found_none : (order : Order) (level : ℕ)
    → ((k : ℕ) → level ≤ k → k ≤ largest_level → first_of (listed order k) ≡ None)
    → None ≡ level_found order level
unfolding level_found Answers
found_none order level none =
    let test : ℕ → Bool = λ k. nat_le level k && is_some (first_of (listed order k)) in
    let answer : Answers (suc largest_level) test None
    = λ (k : ℕ) (below : k < suc largest_level).
    not_yet order level k (λ le. none k le (omega arith)) in
    answers_alone (suc largest_level) test None (least (suc largest_level) test) answer
    (least_answers (suc largest_level) test)

-- the first of the numbers from one to another that passes, or none does
abbrev IsFirst : (ℕ → Type 0) → (ℕ → Type 0) → ℕ → ℕ → Option ℕ → Type 0
IsFirst Passes Fails start end found =
    MatchOption found ((k : ℕ) → start ≤ k → k ≤ end → Fails k)
    (λ n. (start ≤ n) × (n ≤ end) × Passes n × ((k : ℕ) → start ≤ k → k < n → Fails k))

-- so it is the first one with a free piece
pub found_first : (order : Order) (level : ℕ) (found : Option ℕ)
    → IsFirst (λ k. is_some (first_of (listed order k)) ≡ true)
    (λ k. first_of (listed order k) ≡ None) level largest_level found
    → found ≡ level_found order level
found_first order level None none = found_none order level none
found_first order level (Some found) first =
    found_at order level found first.0 first.1 first.2 first.3
