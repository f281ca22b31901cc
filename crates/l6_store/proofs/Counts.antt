-- How many free pieces have a word, as lists change.
use Rattle.std.proofs.Common.{◌≡◌, ◌≢◌, ℕ, zero, suc, ◌+◌, ◌^◌, ◌<◌, ◌≤◌, Bool, true, false, ◌&&◌, ◌||◌, ◌==◌, nat_lt, if◌then◌else◌, List, [], ◌∷◌, length, set, refl, ap, sym, ◌∙◌, arith, inl, inr}
use Rattle.std.proofs.lemmas.Bool.{cases_lt, cases_eq, cases_Bool, eq-eqb, eqb-true, le-leb, lt-leb, lt-ltb, le-ltb}
use Rattle.std.proofs.lemmas.List.{get_or-set_same, get_or-set_other}
use Rattle.l6_word.specs.Numerals.{largest_level}
use Rattle.l6_store.specs.Rule.{Order}
use Rattle.l6_store.specs.Buddy.{has, without, listed, IsListed, in_front, taken_out}
use Rattle.l6_store.specs.Tiles.{holds, held_in, held_below, held}

-- ---- one piece
pub holds_within : (at size place : ℕ) → place ≤ at → at < place + size → holds at size place ≡ 1
holds_within at size place from before =
    ap (λ (b : Bool). if b && nat_lt at (place + size) then 1 else 0) (le-leb place at from)
    ∙ ap (λ (b : Bool). if b then 1 else 0) (lt-ltb at (place + size) before)

pub holds_before : (at size place : ℕ) → at < place → holds at size place ≡ 0
holds_before at size place before =
    ap (λ (b : Bool). if b && nat_lt at (place + size) then 1 else 0) (lt-leb place at before)

pub holds_following : (at size place : ℕ) → place + size ≤ at → holds at size place ≡ 0
holds_following at size place past =
    ap (λ (b : Bool). if b && nat_lt at (place + size) then 1 else 0) (le-leb place at (omega arith))
    ∙ ap (λ (b : Bool). if b then 1 else 0) (le-ltb at (place + size) past)

-- a word is one of a piece or not
pub data Holds (at size place : ℕ) : Type 0 where
  within : place ≤ at → at < place + size → holds at size place ≡ 1 → Holds at size place
  outside : ((place ≤ at) → (at < place + size) → ⊥) → holds at size place ≡ 0 → Holds at size place

pub which_holds : (at size place : ℕ) → Holds at size place
which_holds at size place =
    elim (cases_lt at place) as (λ _. Holds at size place) [
      | inl before ↦ outside (λ from _. omega arith) (holds_before at size place before)
      | inr from ↦ elim (cases_lt at (place + size)) as (λ _. Holds at size place) [
        | inl inside ↦ within from inside (holds_within at size place from inside)
        | inr past ↦ outside (λ _ before. omega arith) (holds_following at size place past)
      ]
    ]

-- the two halves of a piece have its words
pub halves_hold : (at size place : ℕ)
    → holds at (size + size) place ≡ holds at size place + holds at size (place + size)
halves_hold at size place =
    elim (cases_lt at place)
    as (λ _. holds at (size + size) place ≡ holds at size place + holds at size (place + size)) [
      | inl before ↦
          omega (
            arith,
            holds_before at (size + size) place before,
            holds_before at size place before,
            holds_before at size (place + size) (omega arith),
          )
      | inr from ↦ elim (cases_lt at (place + size))
          as (λ _. holds at (size + size) place
          ≡ holds at size place + holds at size (place + size)) [
            | inl low ↦
                omega (
                  arith,
                  holds_within at (size + size) place from (omega arith),
                  holds_within at size place from low,
                  holds_before at size (place + size) low,
                )
            | inr high ↦ elim (cases_lt at (place + size + size))
                as (λ _. holds at (size + size) place
                ≡ holds at size place + holds at size (place + size)) [
                  | inl less ↦
                      omega (
                        arith,
                        holds_within at (size + size) place from (omega arith),
                        holds_following at size place high,
                        holds_within at size (place + size) high less,
                      )
                  | inr past ↦
                      omega (
                        arith,
                        holds_following at (size + size) place (omega arith),
                        holds_following at size place high,
                        holds_following at size (place + size) past,
                      )
                ]
          ]
    ]

-- ---- a list
held_in_without : (at size place : ℕ) (places : List ℕ) → has place places ≡ true
    → held_in at size places ≡ holds at size place + held_in at size (without place places)
unfolding has without held_in
held_in_without at size place [] is = cc
held_in_without at size place (first ∷ rest) is =
    elim (cases_Bool (place == first))
    as (λ _. held_in at size (first ∷ rest)
    ≡ holds at size place + held_in at size (without place (first ∷ rest))) [
      | inl same ↦
          ap (λ (p : ℕ). holds at size p + held_in at size rest) (sym (eqb-true place first same))
          ∙ sym (ap (λ (b : Bool). holds at size place
          + held_in at size (if b then rest else first ∷ without place rest)) same)
      | inr other ↦
          let later : has place rest ≡ true
          = sym (ap (λ (b : Bool). b || has place rest) other) ∙ is in
          let more = held_in_without at size place rest later in
          let moved : holds at size first + held_in at size rest
          ≡ holds at size place + (holds at size first + held_in at size (without place rest))
          = omega (arith, more) in
          moved ∙ sym (ap (λ (b : Bool). holds at size place
          + held_in at size (if b then rest else first ∷ without place rest)) other)
    ]

-- a piece of a list that has the word
pub record PieceIn (places : List ℕ) (at size : ℕ) : Type 0 where
  pub place : ℕ
  pub is : has place places ≡ true
  pub from : place ≤ at
  pub before : at < place + size

pub has_first : (place : ℕ) (rest : List ℕ) → has place (place ∷ rest) ≡ true
unfolding has
has_first place rest = ap (λ (b : Bool). b || has place rest) (eq-eqb place place refl)

pub or_true : (b : Bool) → (b || true) ≡ true
or_true true = refl
or_true false = refl

pub has_more : (place first : ℕ) (rest : List ℕ) → has place rest ≡ true
    → has place (first ∷ rest) ≡ true
unfolding has
has_more place first rest is =
    ap (λ (b : Bool). place == first || b) is ∙ or_true (place == first)

piece_in : (at size : ℕ) (places : List ℕ) → 0 < held_in at size places → PieceIn places at size
unfolding held_in
piece_in at size [] some = absurd (omega arith)
piece_in at size (first ∷ rest) some =
    elim (which_holds at size first) as (λ _. PieceIn (first ∷ rest) at size) [
      | within from before one ↦
          record { place = first; is = has_first first rest; from = from; before = before }
      | outside not none ↦
          let found = piece_in at size rest (omega arith) in
          record {
            place = found.place;
            is = has_more found.place first rest found.is;
            from = found.from;
            before = found.before;
          }
    ]

-- ---- all lists
listed_set_same : (order : Order) (level : ℕ) (places : List ℕ) → level < length order
    → listed (set order level places) level ≡ places
listed_set_same order level places below = get_or-set_same order level places [] below

listed_set_other : (order : Order) (level k : ℕ) (places : List ℕ) → k ≢ level
    → listed (set order level places) k ≡ listed order k
listed_set_other order level k places other = get_or-set_other order level k places [] other

pub listed_same : (order : Order) (level : ℕ) (places : List ℕ) → level < length order
    → listed (set order level places) level ≡ places
listed_same = listed_set_same

pub listed_other : (order : Order) (level k : ℕ) (places : List ℕ) → k ≢ level
    → listed (set order level places) k ≡ listed order k
listed_other = listed_set_other

held_below_past : (bound : ℕ) (order : Order) (level at : ℕ) (places : List ℕ) → bound ≤ level
    → held_below bound (set order level places) at ≡ held_below bound order at
unfolding held_below
held_below_past zero order level at places past = refl
held_below_past (suc bound) order level at places past =
    let same : held_in at (2 ^ bound) (listed (set order level places) bound)
    ≡ held_in at (2 ^ bound) (listed order bound)
    = ap (held_in at (2 ^ bound))
    (listed_set_other order level bound places (λ is. absurd (omega arith))) in
    let less = held_below_past bound order level at places (omega arith) in
    omega (arith, same, less)

held_below_set : (bound : ℕ) (order : Order) (level at : ℕ) (places : List ℕ)
    → level < length order → level < bound
    → held_below bound (set order level places) at + held_in at (2 ^ level) (listed order level)
    ≡ held_below bound order at + held_in at (2 ^ level) places
unfolding held_below
held_below_set zero order level at places room below = absurd (omega arith)
held_below_set (suc bound) order level at places room below =
    elim (cases_eq level bound)
    as (λ _. held_below (suc bound) (set order level places) at
    + held_in at (2 ^ level) (listed order level)
    ≡ held_below (suc bound) order at + held_in at (2 ^ level) places) [
      | inl same ↦
          let here : held_in at (2 ^ bound) (listed (set order level places) bound)
          ≡ held_in at (2 ^ level) places
          = ap (λ (k : ℕ). held_in at (2 ^ k) (listed (set order level places) k)) (sym same)
          ∙ ap (held_in at (2 ^ level)) (listed_set_same order level places room) in
          let was : held_in at (2 ^ bound) (listed order bound)
          ≡ held_in at (2 ^ level) (listed order level)
          = ap (λ (k : ℕ). held_in at (2 ^ k) (listed order k)) (sym same) in
          let less = held_below_past bound order level at places (omega arith) in
          omega (arith, here, was, less)
      | inr other ↦
          let here : held_in at (2 ^ bound) (listed (set order level places) bound)
          ≡ held_in at (2 ^ bound) (listed order bound)
          = ap (held_in at (2 ^ bound))
          (listed_set_other order level bound places (λ is. other (sym is))) in
          let less = held_below_set bound order level at places room (omega (arith, other)) in
          omega (arith, here, less)
    ]

-- a piece more
pub held_in_front : (order : Order) (level place at : ℕ) → length order ≡ suc largest_level
    → level ≤ largest_level
    → held (in_front order level place) at ≡ holds at (2 ^ level) place + held order at
unfolding held held_in
held_in_front order level place at lists small =
    let changed = held_below_set (suc largest_level) order level at (place ∷ listed order level)
    (omega arith) (omega arith) in
    omega (arith, changed)

-- a piece less
pub held_taken_out : (order : Order) (level place at : ℕ) → length order ≡ suc largest_level
    → level ≤ largest_level → IsListed order level place
    → held order at ≡ holds at (2 ^ level) place + held (taken_out order level place) at
unfolding held
held_taken_out order level place at lists small is =
    let changed = held_below_set (suc largest_level) order level at
    (without place (listed order level)) (omega arith) (omega arith) in
    let less = held_in_without at (2 ^ level) place (listed order level) is in
    omega (arith, changed, less)

-- a listed piece that has the word
pub record Piece (order : Order) (at : ℕ) : Type 0 where
  pub level : ℕ
  pub place : ℕ
  pub is : IsListed order level place
  pub from : place ≤ at
  pub before : at < place + 2 ^ level

piece_below : (bound : ℕ) (order : Order) (at : ℕ) → 0 < held_below bound order at → Piece order at
unfolding held_below
piece_below zero order at some = absurd (omega arith)
piece_below (suc bound) order at some =
    elim (cases_lt 0 (held_in at (2 ^ bound) (listed order bound))) as (λ _. Piece order at) [
      | inl here ↦
          let found = piece_in at (2 ^ bound) (listed order bound) here in
          record {
            level = bound;
            place = found.place;
            is = found.is;
            from = found.from;
            before = found.before;
          }
      | inr none ↦ piece_below bound order at (omega arith)
    ]

pub piece_of : (order : Order) (at : ℕ) → 0 < held order at → Piece order at
unfolding held
piece_of order at some = piece_below (suc largest_level) order at some

-- and each such piece counts
pub piece_counts : (order : Order) (level place at : ℕ) → length order ≡ suc largest_level
    → level ≤ largest_level → IsListed order level place → place ≤ at → at < place + 2 ^ level
    → 0 < held order at
piece_counts order level place at lists small is from before =
    omega (
      arith,
      held_taken_out order level place at lists small is,
      holds_within at (2 ^ level) place from before,
    )
