use Rattle.std.proofs.Common.{arith}
use Rattle.l6_word.specs.Numerals.{input_width}
use Rattle.l6_registers.proofs.Inputs.{blank_at, width_is}
use Rattle.l6_registers.proofs.input.next_in_line.Goals as goal

-- a column is near its place
pub overflow_add-result : goal.overflow_add-result
overflow_add-result c = omega (arith, c.requires.near, c.requires.some, width_is)

pub overflow_add-result-in_default-2 : goal.overflow_add-result-in_default-2
overflow_add-result-in_default-2 c = omega (arith, c.requires.near, c.requires.some, width_is)

-- at an end is a blank
pub returns-in-64-clause-value : goal.returns-in-64-clause-value
returns-in-64-clause-value c =
    blank_at input_width c.args.column c.args.place c.args.codes.now c.requires.some c.in-64.is
    (c.requires.blank c.in-64.is)
