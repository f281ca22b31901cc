use Rattle.l6_check.proofs.Marking.{marks_next}
use Rattle.l6_check.proofs.marks.mark_each.Goals as goal

pub loop-thing-preserved : goal.loop-thing-preserved
loop-thing-preserved g c =
    marks_next g.M.Marker.numbers c.args.marks.now c.loop-thing.marks c.mark_of.new.marks c.args.things.now
    c.loop-thing.thing-index c.thing-item.result c.loop-thing-test.true c.thing-item.is
    c.loop-thing.invariant c.mark_of.ensures
