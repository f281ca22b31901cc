use Rattle.std.proofs.Common.{arith, drop, sym, ◌∙◌}
use Rattle.l6_group.specs.Number.{each_read, digit_of}
use Rattle.l6_group.proofs.Numbers.{large_number}
use Rattle.l6_group.proofs.number.number_of.Goals as goal

pub returns-then-value : goal.returns-then-value
returns-then-value c =
    let rest = drop c.loop-byte.byte-index c.args.element.now in
    sym (large_number c.args.base c.loop-byte.value c.loop-byte.has_digit
    (each_read (digit_of c.args.base) rest)
    c.requires.some (omega arith))
    ∙ c.loop-byte.invariant
