use Rattle.std.proofs.Common.{◌≡◌, take}
use Rattle.l6_check.specs.inner.Marks.{marked}
use Rattle.l6_check.proofs.field_warnings.mark_names.Given as goal

-- the fields so far are marked
abbrev pub invariant-loop-field : goal.invariant-loop-field
invariant-loop-field l = l.used ≡ marked l.fn.used (take l.field-index l.fields)
