use Rattle.std.proofs.Common.{◌≡◌, drop}
use Rattle.l6_asm.specs.Labels.{labels_of, labels_after}
use Rattle.l6_asm.proofs.label.labels_of.Given as goal

-- the labels so far and those of the statements that are left are those of all
abbrev pub invariant-loop-written : goal.invariant-loop-written
invariant-loop-written l = record {
  determined : labels_after l.labels.entries l.number (drop l.written-index l.statements)
      ≡ labels_of l.statements;
  count : l.number ≡ l.written-index;
}
