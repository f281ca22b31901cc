use Rattle.std.proofs.Common.{sym}
use Rattle.l6_group.proofs.Cuts.{operation_from_many}
use Rattle.l6_group.proofs.operation.operation_of.Goals as goal

pub returns-in-Some-first_element-4 : goal.returns-in-Some-first_element-4
returns-in-Some-first_element-4 c =
    let first = c.in-Some in
    let second = c.in-Some-first_element in
    let third = c.in-Some-first_element-2 in
    let fourth = c.in-Some-first_element-3 in
    let fifth = c.in-Some-first_element-4 in
    rw (first.ensures, second.ensures, third.ensures, fourth.ensures, fifth.ensures)
    (sym (operation_from_many first.first.now second.second.now third.third.now fourth.fourth.now
    fifth.field-0.0.now fifth.field-0.1.now))
