-- Where a place is open there is a free piece that is large enough.
use Rattle.std.proofs.Common.{◌≡◌, ℕ, Bool, zero, suc, ◌+◌, ◌%◌, ◌^◌, ◌<◌, ◌≤◌, true, ◌&&◌, nat_le, List, [], ◌∷◌, length, Option, Some, None, refl, ap, sym, ◌∙◌, subst, arith, inl, inr, false}
use Rattle.std.proofs.lemmas.Bool.{cases_lt, and_parts, and_from, leb-true, le-leb}
use Rattle.std.proofs.lemmas.Nat.{pow_pos}
use Rattle.std.specs.Option.{is_some, option_map}
use Rattle.l6_word.specs.Numerals.{largest_level}
use Rattle.l6_store.specs.Blocks.{Blocks, LiesIn}
use Rattle.l6_store.specs.Open.{IsOpen, IsAnswer}
use Rattle.l6_store.specs.Rule.{Order, Chooses}
use Rattle.l6_store.specs.Buddy.{has, listed, IsListed, first_of, first_or, level_found, buddy_rule}
use Rattle.l6_store.specs.Tiles.{Tiles}
use Rattle.l6_store.proofs.Least.{Answers, least_answers}
use Rattle.l6_store.proofs.Multiples.{double, size_le, same_multiple, multiple_down, multiple_next}
use Rattle.l6_store.proofs.Counts.{has_first, piece_of, piece_counts}

-- a free piece of at least a level that has a word
pub record Large (order : Order) (level at : ℕ) : Type 0 where
  pub size : ℕ
  pub place : ℕ
  pub is : IsListed order size place
  pub enough : level ≤ size
  pub from : place ≤ at
  pub before : at < place + 2 ^ size

open_half : (units : ℕ) (blocks : Blocks) (level place half : ℕ)
    → IsOpen units blocks (2 ^ suc level) place → half % 2 ^ level ≡ 0 → place ≤ half
    → half + 2 ^ level ≤ place + 2 ^ suc level → IsOpen units blocks (2 ^ level) half
open_half units blocks level place half is aligned from before = record {
  aligned = aligned;
  above = omega (arith, is.above);
  within = omega (arith, is.within);
  free = λ start words at found low high. is.free start words at found (omega arith) (omega arith);
}

-- the word at an open place lies in no block
open_beside : (units : ℕ) (blocks : Blocks) (size place : ℕ) → 0 < size
    → IsOpen units blocks size place → LiesIn blocks place → ⊥
open_beside units blocks size place some is lies =
    omega (
      arith,
      is.free lies.start lies.words place lies.is (omega arith) (omega arith) lies.from,
      lies.below,
    )

-- a piece that is larger than a half, and has the half's first word, has the whole's first word
larger_has : (level size place at piece : ℕ) → level < size → place % 2 ^ suc level ≡ 0
    → piece % 2 ^ size ≡ 0 → place ≤ at → at < place + 2 ^ suc level → piece ≤ at
    → piece ≤ place
larger_has level size place at piece less aligned multiple from before below =
    elim (cases_lt place piece) as (λ _. piece ≤ place) [
      | inl above ↦
          let same : place ≡ piece
          = same_multiple (2 ^ suc level) place piece aligned
          (multiple_down (suc level) size piece (omega arith) multiple)
          (omega arith) (omega arith) in
          omega (arith, same)
      | inr le ↦ le
    ]

pub large_piece : (units : ℕ) (blocks : Blocks) (order : Order) → Tiles units blocks order
    → (level place : ℕ) → level ≤ largest_level → IsOpen units blocks (2 ^ level) place
    → Large order level place
large_piece units blocks order tiles zero place small is =
    let piece = piece_of order place
    (omega (
      arith,
      tiles.once place is.above (omega (arith, is.within))
          (open_beside units blocks (2 ^ 0) place (omega arith) is),
    )) in
    record {
      size = piece.level;
      place = piece.place;
      is = piece.is;
      enough = omega arith;
      from = piece.from;
      before = piece.before;
    }
large_piece units blocks order tiles (suc level) place small is =
    let upper : ℕ = place + 2 ^ level in
    let aligned : place % 2 ^ level ≡ 0
    = multiple_down level (suc level) place (omega arith) is.aligned in
    let one = large_piece units blocks order tiles level place (omega arith)
    (open_half units blocks level place place is aligned (omega arith) (omega (arith, double level))) in
    let two = large_piece units blocks order tiles level upper (omega arith)
    (open_half units blocks level place upper is (multiple_next level place aligned) (omega arith)
    (omega (arith, double level))) in
    let first = tiles.is_aligned one.size one.place one.is in
    let second = tiles.is_aligned two.size two.place two.is in
    elim (cases_lt level one.size) as (λ _. Large order (suc level) place) [
      | inl more ↦
          record {
            size = one.size;
            place = one.place;
            is = one.is;
            enough = omega arith;
            from = one.from;
            before = one.before;
          }
      | inr no_more ↦ elim (cases_lt level two.size) as (λ _. Large order (suc level) place) [
        | inl more ↦
            record {
              size = two.size;
              place = two.place;
              is = two.is;
              enough = omega arith;
              from = larger_has level two.size place upper two.place more is.aligned second.aligned
                  (omega arith) (omega (arith, double level, pow_pos level)) two.from;
              before = omega (arith, two.before, pow_pos level);
            }
        | inr no_more_either ↦
            let size : one.size ≡ level = omega (arith, one.enough) in
            let other : two.size ≡ level = omega (arith, two.enough) in
            let sizes : 2 ^ one.size ≡ 2 ^ level = ap (λ (k : ℕ). 2 ^ k) size in
            let others : 2 ^ two.size ≡ 2 ^ level = ap (λ (k : ℕ). 2 ^ k) other in
            let begins : one.place ≡ place
            = same_multiple (2 ^ level) one.place place
            (ap (λ (s : ℕ). one.place % s) (sym sizes) ∙ first.aligned) aligned one.from
            (omega (arith, one.before, sizes)) in
            let begins_too : two.place ≡ upper
            = same_multiple (2 ^ level) two.place upper
            (ap (λ (s : ℕ). two.place % s) (sym others) ∙ second.aligned)
            (multiple_next level place aligned) two.from (omega (arith, two.before, others)) in
            let lower_is : IsListed order level place
            = subst (λ (k : ℕ). IsListed order k place) size
            (subst (λ (p : ℕ). IsListed order one.size p) begins one.is) in
            let upper_is : IsListed order level upper
            = subst (λ (k : ℕ). IsListed order k upper) other
            (subst (λ (p : ℕ). IsListed order two.size p) begins_too two.is) in
            absurd (tiles.whole level place (omega arith) is.aligned lower_is upper_is)
      ]
    ]

-- ---- the pick
-- a list that has a first place lists it
pub first_listed : (places : List ℕ) → is_some (first_of places) ≡ true
    → has (first_or places 0) places ≡ true
first_listed [] some = cc
first_listed (place ∷ rest) some = has_first place rest

pub listed_some : (place : ℕ) (places : List ℕ) → has place places ≡ true
    → is_some (first_of places) ≡ true
unfolding has
listed_some place [] is = cc
listed_some place (first ∷ rest) is = refl

-- what is known of the level found
unfoldable pub Found : Order → ℕ → Option ℕ → Type 0
Found order level (Some found) =
    (level ≤ found) × (found ≤ largest_level)
    × IsListed order found (first_or (listed order found) 0)
Found order level None =
    (k : ℕ) → level ≤ k → k ≤ largest_level → (place : ℕ) → IsListed order k place → ⊥

found_by : (order : Order) (level : ℕ) (answer : Option ℕ)
    → Answers (suc largest_level) (λ k. nat_le level k && is_some (first_of (listed order k))) answer
    → Found order level answer
unfolding Answers Found
found_by order level (Some found) is =
    let both = and_parts (nat_le level found) (is_some (first_of (listed order found))) is.1 in
    (leb-true level found both.0, omega (arith, is.0), first_listed (listed order found) both.1)
found_by order level None none = λ k from most place is.
    let passes = and_from (nat_le level k) (is_some (first_of (listed order k)))
    (le-leb level k from) (listed_some place (listed order k) is) in
    let fails = none k (omega arith) in
    cc

pub level_is_found : (order : Order) (level : ℕ) → Found order level (level_found order level)
unfolding level_found
level_is_found order level =
    found_by order level (level_found order level)
    (least_answers (suc largest_level)
    (λ k. nat_le level k && is_some (first_of (listed order k))))

-- the lists of the levels before it are empty
none_listed : (places : List ℕ) → is_some (first_of places) ≡ false → places ≡ []
none_listed [] none = refl
none_listed (place ∷ rest) none = cc

least_by : (order : Order) (level : ℕ) (answer : Option ℕ)
    → Answers (suc largest_level) (λ k. nat_le level k && is_some (first_of (listed order k))) answer
    → (found : ℕ) → answer ≡ Some found
    → (k : ℕ) → level ≤ k → k < found → listed order k ≡ []
unfolding Answers
least_by order level None none found is k from before = cc
least_by order level (Some least) answer found is k from before =
    let same : least ≡ found = cc in
    let fails : (nat_le level k && is_some (first_of (listed order k))) ≡ false
    = answer.2 k (omega (arith, same, before)) in
    none_listed (listed order k)
    (sym (ap (λ (b : Bool). b && is_some (first_of (listed order k))) (le-leb level k from)) ∙ fails)

pub found_least : (order : Order) (level found : ℕ) → Some found ≡ level_found order level
    → (k : ℕ) → level ≤ k → k < found → listed order k ≡ []
unfolding level_found
found_least order level found is =
    least_by order level (level_found order level)
    (least_answers (suc largest_level)
    (λ k. nat_le level k && is_some (first_of (listed order k)))) found (sym is)

-- the first piece of the level found answers
answer_of : (units : ℕ) (blocks : Blocks) (order : Order) → Tiles units blocks order
    → (level : ℕ) → level ≤ largest_level → (found : Option ℕ) → Found order level found
    → IsAnswer units blocks (2 ^ level) (option_map (λ k. first_or (listed order k) 0) found)
unfolding Found
answer_of units blocks order tiles level small (Some found) is =
    let place : ℕ = first_or (listed order found) 0 in
    let is_aligned = tiles.is_aligned found place is.2 in
    record {
      aligned = multiple_down level found place is.0 is_aligned.aligned;
      above = is_aligned.above;
      within = omega (arith, is_aligned.within, size_le level found is.0);
      free = λ start words at block from before low.
          elim (cases_lt at (start + length words)) as (λ _. start + length words ≤ at) [
            | inl inside ↦
                absurd (omega (
                  arith,
                  tiles.apart at (record {
                    start = start;
                    words = words;
                    is = block;
                    from = low;
                    below = inside;
                  }),
                  piece_counts order found place at tiles.lists is_aligned.small is.2 from
                      (omega (arith, size_le level found is.0)),
                ))
            | inr past ↦ past
          ];
    }
answer_of units blocks order tiles level small None none = λ place is.
    let large = large_piece units blocks order tiles level place small is in
    none large.size large.enough (tiles.is_aligned large.size large.place large.is).small large.place
    large.is

pub chooses : (units : ℕ) (blocks : Blocks) (order : Order) → Tiles units blocks order
    → Chooses buddy_rule units blocks order
chooses units blocks order tiles level small =
    answer_of units blocks order tiles level small (level_found order level)
    (level_is_found order level)
