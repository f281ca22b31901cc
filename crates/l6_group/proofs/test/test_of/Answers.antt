use Rattle.std.proofs.Common.{sym}
use Rattle.l6_group.proofs.Cuts.{test_from_many}
use Rattle.l6_group.proofs.test.test_of.Goals as goal

pub returns-in-Some : goal.returns-in-Some
returns-in-Some c =
    let third = c.in-Some in
    rw (c.in_ok-target.ensures, c.in_ok-verb.ensures, third.ensures)
    (sym (test_from_many c.in_ok-target.target.now c.in_ok-verb.verb.now third.field-0.0.now
    third.field-0.1.now))
