use Rattle.std.proofs.Common.{◌≡◌, take, replicate, false}
use Rattle.std.specs.List.{flat_map}
use Rattle.l6_prog.specs.Numerals.{name_count}
use Rattle.l6_check.specs.Fields.{fields_of, defined_in}
use Rattle.l6_check.specs.inner.Marks.{marked}
use Rattle.l6_check.proofs.field_warnings.fields_of.Given as goal

-- the fields of the statements so far are marked
abbrev pub invariant-loop-statement : goal.invariant-loop-statement
invariant-loop-statement l = record {
  used : l.used
      ≡ marked (replicate name_count false) (flat_map fields_of (take l.statement-index l.statements));
  defined : l.defined
      ≡ marked (replicate name_count false) (flat_map defined_in (take l.statement-index l.statements));
}
