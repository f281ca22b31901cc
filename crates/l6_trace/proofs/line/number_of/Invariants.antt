use Rattle.std.proofs.Common.{◌≡◌, ◌≤◌, drop}
use Rattle.l6_trace.specs.Numerals.{most_number}
use Rattle.l6_trace.specs.Number.{digits_of, number_of}
use Rattle.l6_trace.proofs.Numbers.{number_after}
use Rattle.l6_trace.proofs.line.number_of.Given as goal

-- the number so far and the digits that are left make the number of the word
abbrev pub invariant-loop-byte : goal.invariant-loop-byte
invariant-loop-byte l =
    (l.number ≤ most_number)
    × (number_after l.number l.has_digit (digits_of (drop l.byte-index l.word)) ≡ number_of l.word)
