use Rattle.std.proofs.Common.{◌≡◌, ℕ, suc, ◌+◌, ◌*◌, ◌-◌, ◌^◌, ◌<◌, ◌≤◌, ap, sym, ◌∙◌, subst, lit<, arith, inl, inr}
use Rattle.std.proofs.Math.Nat.{pow-le-pow_right}
use Rattle.std.proofs.lemmas.Bool.{cases_lt}
use Rattle.std.proofs.lemmas.Nat.{leading_length, pow_pos}
use Rattle.std.specs.Int.Count.{count_leading_zeros}
use Rattle.l6_word.specs.Numerals.{largest_level}
use Rattle.l6_store.proofs.Multiples.{double}
use Rattle.l6_store.proofs.level.level_for.Goals as goal

-- how many bits the index of the last of so many words has
abbrev bits_of : ℕ → ℕ
bits_of last = 32 - count_leading_zeros 32 (2 * last + 1) - 1

-- so many words fit the block of that level, and no smaller one
record IsLeast (words bits : ℕ) : Type 0 where
  enough : words ≤ 2 ^ bits
  least : (lower : ℕ) → lower < bits → 2 ^ lower < words

is_least : (words last : ℕ) → words ≤ 1024 → last ≡ words - 1 → IsLeast words (bits_of last)
is_least words last fits is =
    let long = leading_length 32 (2 * last + 1) (omega (arith, fits, is)) in
    let some : 1 ≤ long.0 = elim (cases_lt long.0 1) as (λ _. 1 ≤ long.0) [
      | inl less ↦
          let none : long.0 ≡ 0 = omega (arith, less) in
          absurd (omega (arith, long.2, ap (λ (k : ℕ). 2 ^ k) none))
      | inr more ↦ more
    ] in
    let next : suc (long.0 - 1) ≡ long.0 = omega (arith, some) in
    let power : 2 ^ long.0 ≡ 2 ^ (long.0 - 1) + 2 ^ (long.0 - 1)
    = ap (λ (k : ℕ). 2 ^ k) (sym next) ∙ double (long.0 - 1) in
    let bits : long.0 - 1 ≡ bits_of last = omega (arith, long.1) in
    subst (IsLeast words) bits (record {
      enough = omega (arith, is, long.2, power);
      least = λ lower less.
          let twice : 2 ^ suc lower ≤ 2 ^ (long.0 - 1) = pow-le-pow_right {n = 2} (lit< tt) less in
          omega (arith, is, long.3, power, twice, double lower, pow_pos lower);
    })

least_for : (c : goal.After-saturating_sub-last) →
    IsLeast c.args.words (bits_of c.saturating_sub-last.result)
least_for c =
    is_least c.args.words c.saturating_sub-last.result (omega (arith, c.if-words.false))
    c.saturating_sub-last.ensures

-- a level past the largest would be too large
not_past : (words bits : ℕ) → IsLeast words bits → words ≤ 1024 → bits ≤ largest_level
not_past words bits is fits =
    elim (cases_lt largest_level bits) as (λ _. bits ≤ largest_level) [
      | inl past ↦ absurd (omega (arith, is.least largest_level past, fits))
      | inr within ↦ within
    ]

pub returns-clause-small : goal.returns-clause-small
returns-clause-small c =
    not_past c.args.words (bits_of c.saturating_sub-last.result) (least_for c)
    (omega (arith, c.if-words.false))

pub returns-clause-enough : goal.returns-clause-enough
returns-clause-enough c = (least_for c).enough

pub returns-clause-least : goal.returns-clause-least
returns-clause-least c = (least_for c).least
