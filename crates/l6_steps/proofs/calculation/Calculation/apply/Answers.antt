use Rattle.std.proofs.Common.{arith}
use Rattle.l6_steps.proofs.Calculations.{mod_complement, mod_cut, mod_difference, mod_shift, word_shift}
use Rattle.l6_steps.proofs.calculation.Calculation.apply.Goals as goal

pub returns-in-Subtract : goal.returns-in-Subtract
returns-in-Subtract c = λ width narrow. grind (arith, mod_difference)

pub returns-in-Multiply : goal.returns-in-Multiply
returns-in-Multiply c = λ width narrow. grind (arith, mod_cut)

pub returns-in-Complement : goal.returns-in-Complement
returns-in-Complement c = λ width narrow. grind (arith, mod_complement)

pub returns-in-ShiftLeft : goal.returns-in-ShiftLeft
returns-in-ShiftLeft c = λ width narrow. grind (arith, mod_shift)

pub returns-in-ShiftLeft-2 : goal.returns-in-ShiftLeft-2
returns-in-ShiftLeft-2 c = λ width narrow. grind (arith, mod_cut)

pub returns-in-ShiftRight : goal.returns-in-ShiftRight
returns-in-ShiftRight c = λ width narrow. grind (arith, word_shift)
