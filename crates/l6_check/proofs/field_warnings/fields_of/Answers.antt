use Rattle.std.proofs.Common.{◌∙◌, sym, ap, replicate, false}
use Rattle.std.specs.List.{flat_map}
use Rattle.l6_prog.specs.Numerals.{name_count}
use Rattle.l6_check.specs.Fields.{fields_of, fields_of_test, fields_of_operation, defined_by, defined_in}
use Rattle.l6_check.specs.inner.Marks.{marked}
use Rattle.l6_check.proofs.Marking.{marked_append, marks_next}
use Rattle.l6_check.proofs.field_warnings.fields_of.Goals as goal

pub loop-statement-preserved : goal.loop-statement-preserved
loop-statement-preserved c =
    let none = replicate name_count false in
    let statement = c.statement-item.result in
    let tests = flat_map fields_of_test statement.tests in
    let operations = flat_map fields_of_operation statement.operations in
    record {
      used = marks_next fields_of none c.loop-statement.used c.mark_each-in-loop-statement.new.marks c.args.statements.now
          c.loop-statement.statement-index statement c.loop-statement-test.true c.statement-item.is
          c.loop-statement.invariant.used
          (c.mark_each-in-loop-statement.ensures
          ∙ ap (λ os. marked c.mark_each.new.marks (flat_map fields_of_operation os)) c.operations.ensures
          ∙ ap (λ m. marked m operations) (c.mark_each.ensures
          ∙ ap (λ ts. marked c.loop-statement.used (flat_map fields_of_test ts)) c.tests.ensures)
          ∙ sym (marked_append c.loop-statement.used tests operations));
      defined = marks_next defined_in none c.loop-statement.defined c.mark_each-in-loop-statement-2.new.marks
          c.args.statements.now c.loop-statement.statement-index statement c.loop-statement-test.true
          c.statement-item.is c.loop-statement.invariant.defined
          (c.mark_each-in-loop-statement-2.ensures
          ∙ ap (λ os. marked c.loop-statement.defined (flat_map defined_by os))
          c.operations-in-loop-statement.ensures);
    }
