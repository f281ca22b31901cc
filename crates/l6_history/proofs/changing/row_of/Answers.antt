use Rattle.std.proofs.Common.{◌+◌, ◌<◌, ℕ, List, true, false, length, get_or, replicate, refl, sym, ap, ◌∙◌, subst}
use Rattle.l6_prog.specs.declared.operation.Op.{Op}
use Rattle.l6_steps.specs.Step.{action_of}
use Rattle.l6_history.specs.inner.Changing.{IsRow, action_changes}
use Rattle.l6_history.proofs.ChangeRows.{exit_changes, first_row, operation_changes, set_row}
use Rattle.l6_history.proofs.changing.row_of.Goals as goal

-- the condition and the exit are known
pub loop-index-init : goal.loop-index-init
loop-index-init c =
    let watched = c.args.watched.now in
    let statement = c.args.statement.now in
    let operations = c.operations-operations.result.now in
    let first : IsRow watched statement c.set_entry.new.row =
    subst (IsRow watched statement) (sym c.set_entry.ensures)
    (set_row watched statement (replicate 64 true) 0 false (first_row watched statement 64) (λ _. refl)) in
    record {
      known = subst (IsRow watched statement) (sym c.set_entry-2.ensures)
          (set_row watched statement c.set_entry.new.row (length operations + 1) false first
          (λ _. ap (λ (rows : List (Op ℕ)). action_changes watched (action_of statement (length rows + 1)))
          c.operations-operations.ensures
          ∙ exit_changes watched statement));
    }

-- an operation more is known
pub loop-index-preserved : goal.loop-index-preserved
loop-index-preserved c =
    let watched = c.args.watched.now in
    let statement = c.args.statement.now in
    let index = c.loop-index.index in
    let op = c.index-operations-index.result in
    let same = c.operations-operations.ensures in
    record {
      known = subst (IsRow watched statement) (sym c.set_entry-in-loop-index.ensures)
          (set_row watched statement c.loop-index.row (index + 1) c.changes_some.result
          c.loop-index.invariant.known
          (λ none. operation_changes watched statement index op
          (subst (λ (rows : List (Op ℕ)). index < length rows) same c.loop-index-test.true)
          (c.index-operations-index.is ∙ ap (λ (rows : List (Op ℕ)). get_or rows index op) same)
          ∙ sym c.changes_some.ensures ∙ none));
    }
