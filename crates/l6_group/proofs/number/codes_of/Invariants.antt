use Rattle.std.proofs.Common.{◌≡◌, drop}
use Rattle.l6_group.specs.Number.{codes_of}
use Rattle.l6_group.proofs.Readings.{with_read}
use Rattle.l6_group.proofs.number.codes_of.Given as goal

-- the codes so far and those of what is left are those of the element
abbrev pub invariant-loop-byte : goal.invariant-loop-byte
invariant-loop-byte g l =
    with_read l.codes.items (codes_of (drop l.byte-index l.element)) ≡ codes_of l.element
