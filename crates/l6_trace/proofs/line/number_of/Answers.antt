use Rattle.std.proofs.Common.{◌+◌, arith, drop, sym, ap, ◌∙◌}
use Rattle.l6_trace.specs.Number.{digits_of}
use Rattle.l6_trace.proofs.Numbers.{number_after, large_number, digits_on}
use Rattle.l6_trace.proofs.line.number_of.Goals as goal

pub returns-then-number : goal.returns-then-number
returns-then-number c =
    let word = c.args.word.now in
    let place = c.loop-byte.byte-index in
    let digit = c.in_ok-digit.digit in
    let value = c.loop-byte.number in
    let begun = c.loop-byte.has_digit in
    let known = sym c.digit_of.ensures ∙ c.in_ok-digit.was in
    let on = digits_on word place digit (omega arith) known in
    sym (large_number value begun digit (digits_of (drop (place + 1) word)) (omega arith))
    ∙ sym (ap (number_after value begun) on)
    ∙ c.loop-byte.invariant.1
