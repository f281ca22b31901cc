use Rattle.std.proofs.Common.{◌≡◌, drop}
use Rattle.l6_group.specs.Element.{names_of}
use Rattle.l6_group.proofs.Readings.{with_read}
use Rattle.l6_group.proofs.element.any_chain_of.Given as goal

-- the names so far and those of what is left are those of the element
abbrev pub invariant-loop-byte : goal.invariant-loop-byte
invariant-loop-byte l =
    with_read l.names.items (names_of (drop l.byte-index l.element)) ≡ names_of l.element
