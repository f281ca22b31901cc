use Rattle.std.proofs.Common.{◌≡◌, ◌++◌, drop}
use Rattle.l6_group.specs.Character.{spelled}
use Rattle.l6_group.proofs.spelling.copied.Given as goal

-- the characters so far and those of what is left are those of the element
abbrev pub invariant-loop-byte : goal.invariant-loop-byte
invariant-loop-byte g l =
    l.characters.items ++ spelled (drop l.byte-index l.element) ≡ spelled l.element
