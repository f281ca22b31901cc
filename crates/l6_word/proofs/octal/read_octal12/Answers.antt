use Rattle.std.proofs.Common.{◌∙◌, ap, sym, arith}
use Rattle.std.specs.Str.Parse.{digits_value}
use Rattle.l6_word.proofs.Octals.{few_digits, read_whole, octal12_value}
use Rattle.l6_word.proofs.octal.read_octal12.Goals as goal

pub overflow_mul-value : goal.overflow_mul-value
overflow_mul-value c =
    let now = c.loop-given in
    omega (arith, few_digits now.given-index now.value (omega arith) now.invariant.below)

pub overflow_add-value : goal.overflow_add-value
overflow_add-value c =
    let now = c.loop-given in
    omega (arith, few_digits now.given-index now.value (omega arith) now.invariant.below)

pub returns-clause-value : goal.returns-clause-value
returns-clause-value c =
    let now = c.loop-given in
    read_whole now.given-index now.value c.from_value.result c.args.text.now (omega arith)
    (omega arith) (omega arith) now.invariant.digits (omega arith)

pub returns-clause-number : goal.returns-clause-number
returns-clause-number c =
    let now = c.loop-given in
    let whole =
    read_whole now.given-index now.value c.from_value.result c.args.text.now (omega arith)
    (omega arith) (omega arith) now.invariant.digits (omega arith) in
    let fits = few_digits now.given-index now.value (omega arith) now.invariant.below in
    sym (ap (digits_value 8) whole ∙ octal12_value c.from_value.result (omega (arith, fits)))
