-- Blocks that are in the way of another.
use Rattle.std.proofs.Common.{◌≡◌, ℕ, ◌+◌, ◌*◌, ◌/◌, ◌%◌, ◌^◌, ◌<◌, ◌≤◌, Option, Some, None, sym, arith, inl, inr}
use Rattle.std.proofs.lemmas.Nat.{pow_pos, div-add-mod', mod_below}
use Rattle.std.proofs.lemmas.Bool.{cases_lt}
use Rattle.l6_places.specs.Board.{Board, Fits, IsOpen}
use Rattle.l6_places.specs.Hindrance.{Shares}
use Rattle.l6_places.specs.inner.Ways.{IsInTheWay}
use Rattle.l6_places.specs.inner.Ways.{Covers, IsCover, BeginsFirst, IsFirstBlock}
use Rattle.l6_places.proofs.Multiples.{same_multiple, times_size, multiple_down, apart}

-- what covers a place begins at the multiple of its size below it
pub cover_start : (b : Board) (level place start : ℕ) → Fits b → (c : Covers b level place start)
    → start ≡ place / 2 ^ c.upper * 2 ^ c.upper
cover_start b level place start fits c =
    let size : ℕ = 2 ^ c.upper in
    let its = (fits.each start c.upper c.begins).aligned in
    let down : ℕ = place / 2 ^ c.upper * 2 ^ c.upper in
    let multiple = times_size (place / 2 ^ c.upper) c.upper in
    let whole : place / 2 ^ c.upper * 2 ^ c.upper + place % 2 ^ c.upper ≡ place
    = div-add-mod' place (2 ^ c.upper) in
    let rest : place % 2 ^ c.upper < 2 ^ c.upper = mod_below place (2 ^ c.upper) (pow_pos c.upper) in
    elim (cases_lt down start) as (λ _. start ≡ down) [
      | inl less ↦
          sym (same_multiple (2 ^ c.upper) down start multiple its (omega (arith, less))
          (omega (arith, whole, rest, c.from)))
      | inr more ↦
          same_multiple (2 ^ c.upper) start down its multiple more (omega (arith, whole, c.under))
    ]

pub shares_cover : (b : Board) (level place start : ℕ) → Covers b level place start
    → Shares b (2 ^ level) place start
shares_cover b level place start c = record {
  level = c.upper;
  begins = c.begins;
  before = omega (arith, c.from, pow_pos level);
  behind = c.under;
}

pub shares_inner : (b : Board) (level place end start : ℕ) → end ≡ place + 2 ^ level
    → BeginsFirst b place end start → Shares b (2 ^ level) place start
shares_inner b level place end start is i = record {
  level = i.level;
  begins = i.begins;
  before = omega (arith, is, i.high);
  behind = omega (arith, i.low, pow_pos i.level);
}

pub shares_none : (b : Board) (level place end : ℕ) → Fits b → place % 2 ^ level ≡ 0
    → end ≡ place + 2 ^ level → IsCover b level place None → IsFirstBlock b place end None
    → IsInTheWay b (2 ^ level) place None
shares_none b level place end fits aligned is covers inners = λ other s.
    elim (cases_lt other place) as (λ _. ⊥) [
      | inr behind ↦
          omega (arith, s.begins, inners other behind (omega (arith, is, s.before)))
      | inl before ↦
          elim (cases_lt s.level level) as (λ _. ⊥) [
            | inl small ↦
                omega (
                  arith,
                  s.behind,
                  apart (2 ^ s.level) other place (fits.each other s.level s.begins).aligned
                      (multiple_down s.level level place (omega (arith, small)) aligned) before,
                )
            | inr large ↦
                covers other (record {
                  upper = s.level;
                  begins = s.begins;
                  larger = large;
                  from = omega (arith, before);
                  under = s.behind;
                })
          ]
    ]

-- where nothing is in the way, a place is open
pub clear_open : (b : Board) (level place : ℕ) → place % 2 ^ level ≡ 0 → b.first ≤ place
    → place + 2 ^ level ≤ b.end → IsInTheWay b (2 ^ level) place None → IsOpen b (2 ^ level) place
clear_open b level place aligned low high none = record {
  aligned = aligned;
  above = low;
  within = high;
  free = λ start l at begins from under more.
      elim (cases_lt at (start + 2 ^ l)) as (λ _. start + 2 ^ l ≤ at) [
        | inr behind ↦ behind
        | inl inside ↦
            absurd (none start (record {
              level = l;
              begins = begins;
              before = omega (arith, more, under);
              behind = omega (arith, from, inside);
            }))
      ];
}

pub way_of : (b : Board) (level place end : ℕ) → Fits b → place % 2 ^ level ≡ 0
    → end ≡ place + 2 ^ level → IsCover b level place None → (found : Option ℕ)
    → IsFirstBlock b place end found → IsInTheWay b (2 ^ level) place found
way_of b level place end fits aligned is covers (Some other) i =
    shares_inner b level place end other is i
way_of b level place end fits aligned is covers None i =
    shares_none b level place end fits aligned is covers i
