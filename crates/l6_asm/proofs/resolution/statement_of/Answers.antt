use Rattle.std.proofs.Common.{Ok, sym, ap, ◌∙◌, map}
use Rattle.l6_prog.specs.declared.condition.Test.{Test}
use Rattle.l6_card.specs.declared.cards.Placed.{Placed}
use Rattle.l6_asm.specs.Resolution.{each_made, operation_of, exit_of}
use Rattle.l6_asm.proofs.Programs.{statement_from, same_statement}
use Rattle.l6_asm.proofs.resolution.statement_of.Goals as goal

pub returns : goal.returns
returns c =
    let parts = c.into_parts-condition.ensures in
    let labels = c.args.labels.now.entries in
    let read = λ (group : Placed Test). group.reading in
    statement_from labels c.args.written c.in_ok-operations.operations.items c.in_ok-exit.exit
    (ap (each_made (operation_of labels)) (sym parts.operations) ∙ c.in_ok-operations.ensures)
    (ap (exit_of labels) (sym parts.exit) ∙ c.in_ok-exit.ensures)
    ∙ ap Ok (same_statement c.args.written.condition _ (map read c.args.written.tests) _
    c.in_ok-operations.operations.items c.in_ok-exit.exit (sym parts.condition)
    (sym (c.in_ok-tests.ensures ∙ ap (map read) parts.tests))
    ∙ sym c.new.ensures)
