use Rattle.std.proofs.Common.{get_or}
use Rattle.std.proofs.lemmas.List.{get_or_default}
use Rattle.l6_check.proofs.Marking.{number_next}
use Rattle.l6_check.proofs.targets.mark_all.Goals as goal

pub loop-number-preserved : goal.loop-number-preserved
loop-number-preserved c =
    let numbers = c.args.numbers.now in
    let index = c.loop-number.number-index in
    let number = get_or numbers index 0 in
    number_next c.args.marks.now c.loop-number.marks c.mark.new.marks numbers index number
    c.loop-number-test.true (get_or_default numbers index 0 number c.loop-number-test.true)
    c.loop-number.invariant c.mark.ensures
