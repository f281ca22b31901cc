-- The tests of bits, bit by bit.
use Rattle.std.proofs.Common.{◌≡◌, ℕ, min, inl, inr, ap, sym, ◌∙◌, arith}
use Rattle.std.specs.Prelude.{bit_and}
use Rattle.std.specs.Int.{bit_at}
use Rattle.std.proofs.lemmas.Bool.{cases_eq, eqb-true, eq-eqb}
use Rattle.std.proofs.lemmas.Nat.Bits.{bit_at_and, bit_at-lt, bit_at-zero, same_from_bits}
use Rattle.l6_steps.specs.Laws.{OnesBitByBit, ZerosBitByBit}

-- a bit of both, by the bits of each
both_at : (u v both bit : ℕ) → bit_and u v ≡ both →
    min (bit_at u bit) (bit_at v bit) ≡ bit_at both bit
both_at u v both bit is = sym (bit_at_and u v bit) ∙ ap (λ n. bit_at n bit) is

ones_from : (u v : ℕ) → ((bit : ℕ) → bit_at v bit ≡ 1 → bit_at u bit ≡ 1) → bit_and u v ≡ v
ones_from u v each = same_from_bits (bit_and u v) v (λ bit.
    elim (cases_eq (bit_at v bit) 1) as (λ _. bit_at (bit_and u v) bit ≡ bit_at v bit) [
      | inl one ↦ let same = each bit one in omega (arith, bit_at_and u v bit, one, same)
      | inr none ↦ omega (arith, bit_at_and u v bit, none, bit_at-lt v bit)
    ])

zeros_from : (u v : ℕ) → ((bit : ℕ) → bit_at v bit ≡ 1 → bit_at u bit ≡ 0) → bit_and u v ≡ 0
zeros_from u v each = same_from_bits (bit_and u v) 0 (λ bit.
    elim (cases_eq (bit_at v bit) 1) as (λ _. bit_at (bit_and u v) bit ≡ bit_at 0 bit) [
      | inl one ↦
          let same = each bit one in
          omega (arith, bit_at_and u v bit, one, same, bit_at-zero bit)
      | inr none ↦ omega (arith, bit_at_and u v bit, none, bit_at-lt v bit, bit_at-zero bit)
    ])

pub ones_bit_by_bit : OnesBitByBit
ones_bit_by_bit u v = (
  λ holds bit one.
      omega (arith, both_at u v v bit (eqb-true (bit_and u v) v holds), one, bit_at-lt u bit),
  λ each. eq-eqb (bit_and u v) v (ones_from u v each),
)

pub zeros_bit_by_bit : ZerosBitByBit
zeros_bit_by_bit u v = (
  λ holds bit one.
      omega (arith, both_at u v 0 bit (eqb-true (bit_and u v) 0 holds), one, bit_at-zero bit),
  λ each. eq-eqb (bit_and u v) 0 (zeros_from u v each),
)
