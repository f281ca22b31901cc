use Rattle.std.proofs.Common.{◌≡◌, drop}
use Rattle.std.specs.Prelude.{option_to_list}
use Rattle.l6_group.specs.Element.{names_of}
use Rattle.l6_group.proofs.Readings.{with_read}
use Rattle.l6_group.proofs.element.field_of.Given as goal

-- the name so far, if there is one, and those of what is left are those of the element
abbrev pub invariant-loop-byte : goal.invariant-loop-byte
invariant-loop-byte l =
    with_read (option_to_list l.field) (names_of (drop l.byte-index l.element)) ≡ names_of l.element
