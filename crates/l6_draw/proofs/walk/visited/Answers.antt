use Rattle.std.proofs.Common.{ap, rules, subst}
use Rattle.l6_store.specs.Blocks.{Blocks, Fits}
use Rattle.l6_draw.specs.inner.Walk.{Walk}
use Rattle.l6_draw.proofs.Walking.{walk_begun, walk_goes_on, walk_less, walk_ends}
use Rattle.l6_draw.proofs.walk.visited.Goals as goal

pub loop-place-init : goal.loop-place-init
loop-place-init g c =
    let memory = c.args.machine.now.configuration.state.memory in
    let units = (g.S.Places.store c.store.result.now).units in
    walk_begun units c.end_of.result memory
    (subst (λ (blocks : Blocks). Fits units blocks) c.store.ensures.blocks c.units.ensures.sound.fits)
    (search rules) c.in_ok-walk.walk c.meet_bugs.new.self c.in_ok-walk.ensures c.in_ok-meet_bugs.ensures

pub loop-place-smaller : goal.loop-place-smaller
loop-place-smaller g c =
    walk_less c.args.machine.now.configuration.state.memory c.loop-place.walk c.next.new.self
    c.meet_fields.new.self c.in-Some.place c.next.ensures.visited c.in-Some.ensures.worklist
    c.in_ok-meet_fields.ensures

pub loop-place-preserved : goal.loop-place-preserved
loop-place-preserved g c =
    walk_goes_on c.args.machine.now.configuration.state.memory c.loop-place.walk c.next.new.self
    c.meet_fields.new.self c.in-Some.place c.loop-place.invariant c.next.ensures.visited
    c.in-Some.ensures.worklist c.in_ok-meet_fields.ensures

pub returns : goal.returns
returns g c =
    walk_ends c.args.machine.now.configuration.state.memory c.loop-place.walk c.next.new.self
    c.walk-2.inside.visited.items c.loop-place.invariant
    (λ more. let determined = (c.in_default.ensures.none).1 more in cc) c.next.ensures.visited
    (ap (λ (walk : Walk). walk.visited) c.walk-2.view_is)
