use Rattle.std.proofs.Common.{◌≡◌, drop}
use Rattle.l6_group.specs.Number.{each_read, digit_of, number_of}
use Rattle.l6_group.proofs.Numbers.{number_after}
use Rattle.l6_group.proofs.number.number_of.Given as goal

-- the value so far and the digits that are left make the number
abbrev pub invariant-loop-byte : goal.invariant-loop-byte
invariant-loop-byte l =
    number_after l.base l.value l.has_digit
    (each_read (digit_of l.base) (drop l.byte-index l.element)) ≡ number_of l.base l.element
