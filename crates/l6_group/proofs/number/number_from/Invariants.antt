use Rattle.std.proofs.Common.{◌≡◌, drop}
use Rattle.std.specs.Int.Digits.{number_from_digits, number_from_digits_after}
use Rattle.l6_word.specs.Numerals.{code_count}
use Rattle.l6_group.proofs.number.number_from.Given as goal

-- the value so far and the codes that are left make the number
abbrev pub invariant-loop-code : goal.invariant-loop-code
invariant-loop-code l =
    number_from_digits_after code_count l.value (drop l.code-index l.codes)
    ≡ number_from_digits code_count l.codes
