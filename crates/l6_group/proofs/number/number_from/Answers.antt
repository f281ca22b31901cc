use Rattle.std.proofs.Common.{arith, drop, sym}
use Rattle.l6_word.specs.Numerals.{code_count}
use Rattle.l6_group.proofs.Numbers.{number_from_large}
use Rattle.l6_group.proofs.number.number_from.Goals as goal

pub returns-then-value : goal.returns-then-value
returns-then-value c =
    let rest = drop c.loop-code.code-index c.args.codes.now in
    sym (number_from_large code_count c.loop-code.value c.args.codes.now rest
    (omega arith) (omega arith) c.loop-code.invariant)
