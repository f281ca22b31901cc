use Rattle.l6_steps.proofs.Bits.{ones_bit_by_bit, zeros_bit_by_bit}
use Rattle.l6_steps.proofs.laws.tests_look_at_each_bit.Goals as goal

pub returns : goal.returns
returns c = record { ones = ones_bit_by_bit; zeros = zeros_bit_by_bit }
