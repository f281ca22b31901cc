use Rattle.std.proofs.lemmas.Nat.Bits.{bit_at_and, bit_at_or, bit_at_xor}
use Rattle.l6_steps.proofs.Calculations.{turns_each_bit}
use Rattle.l6_steps.proofs.laws.logic_goes_bit_by_bit.Goals as goal

pub returns : goal.returns
returns c = record {
  both = λ width content value place. bit_at_and content value place;
  either = λ width content value place. bit_at_or content value place;
  just_one = λ width content value place. bit_at_xor content value place;
  turned = turns_each_bit;
}
