use Rattle.std.proofs.Common.{◌≡◌, ℕ, List, false, replicate, add-one, sym, ap, ◌∙◌, subst, arith, rules}
use Rattle.std.specs.List.{flat_map}
use Rattle.l6_prog.specs.Numerals.{name_count}
use Rattle.l6_check.specs.Fields.{field_said, fields_of, defined_in, undefined_below}
use Rattle.l6_check.specs.Kept.{Say}
use Rattle.l6_check.specs.inner.Marks.{is_marked, marked}
use Rattle.l6_check.proofs.FieldSteps.{undefined_same}
use Rattle.l6_check.proofs.field_warnings.undefined_fields.Goals as goal

pub loop-number-preserved : goal.loop-number-preserved
loop-number-preserved c =
    let used = is_marked c.fields_of-fields.result.used in
    let defined = is_marked c.fields_of-fields.result.defined in
    let number = c.loop-number.number in
    record {
      said = subst (λ (n : ℕ). Say field_said (undefined_below used defined n) c.add_if_undefined.new.found)
          (sym (add-one number))
          (c.in_ok-add_if_undefined.ensures.said (undefined_below used defined number)
          c.loop-number.invariant.said);
      few = omega (arith, c.in_ok-add_if_undefined.ensures.count, c.loop-number.invariant.few);
    }

pub returns : goal.returns
returns c =
    let used = c.fields_of-fields.result.used in
    let defined = c.fields_of-fields.result.defined in
    let all = c.statements.ensures.value in
    let end : c.loop-number.number ≡ name_count = search rules in
    subst (λ (l : List ℕ). Say field_said l c.loop-number.found)
    (ap (undefined_below (is_marked used) (is_marked defined)) end
    ∙ undefined_same c.args.program.now used defined
    (c.fields_of-fields.ensures.used
    ∙ ap (λ s. marked (replicate name_count false) (flat_map fields_of s)) all)
    (c.fields_of-fields.ensures.defined
    ∙ ap (λ s. marked (replicate name_count false) (flat_map defined_in s)) all))
    c.loop-number.invariant.said
