use Rattle.std.proofs.Common.{◌≤◌}
use Rattle.l6_check.specs.Fields.{field_said, undefined_below}
use Rattle.l6_check.specs.Kept.{Say}
use Rattle.l6_check.specs.inner.Marks.{is_marked}
use Rattle.l6_check.proofs.field_warnings.undefined_fields.Given as goal

-- the fields below this number are said
abbrev pub invariant-loop-number : goal.invariant-loop-number
invariant-loop-number l = record {
  said : Say field_said
      (undefined_below (is_marked l.fields.used) (is_marked l.fields.defined) l.number) l.found;
  few : l.found.count ≤ l.number;
}
