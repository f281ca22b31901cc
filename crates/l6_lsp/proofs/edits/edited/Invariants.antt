use Rattle.std.proofs.Common.{◌≡◌, drop}
use Rattle.l6_lsp.specs.Edits as spec
use Rattle.l6_lsp.proofs.edits.edited.Given as goal

-- what is left to do makes the whole of what was done
abbrev pub invariant-loop-start : goal.invariant-loop-start
invariant-loop-start l =
    spec.edited l.current.items (drop l.start-index l.ranges) l.name ≡ spec.edited l.text l.ranges l.name
