use Rattle.std.proofs.Common.{ap, sym, subst, arith}
use Rattle.l6_store.specs.Buddy.{listed}
use Rattle.l6_store.proofs.NextPlaces.{IsPlaceOf, counted_more, first_is, left, left_first}
use Rattle.l6_store.proofs.piece.count_pieces.Goals as goal

pub loop-place-init : goal.loop-place-init
loop-place-init c =
    let places = listed c.args.arena.now.order c.args.level in (
      omega (arith, ap (left places) c.first-place.ensures, left_first places),
      subst (IsPlaceOf places) (sym c.first-place.ensures) (first_is places),
    )

pub loop-place-smaller : goal.loop-place-smaller
loop-place-smaller c =
    (counted_more (listed c.args.arena.now.order c.args.level) c.loop-place.count c.in-Some.piece
    c.loop-place.place c.next-place.result (c.requires.sound.distinct c.args.level) c.in-Some.is
    c.next-place.ensures c.loop-place.invariant.0 c.loop-place.invariant.1).2

pub loop-place-preserved : goal.loop-place-preserved
loop-place-preserved c =
    let more = counted_more (listed c.args.arena.now.order c.args.level) c.loop-place.count
    c.in-Some.piece c.loop-place.place c.next-place.result (c.requires.sound.distinct c.args.level)
    c.in-Some.is c.next-place.ensures c.loop-place.invariant.0 c.loop-place.invariant.1 in
    (more.0, more.1)
