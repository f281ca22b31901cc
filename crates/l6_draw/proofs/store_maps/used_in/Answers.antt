use Rattle.std.proofs.Common.{drop, arith, refl}
use Rattle.std.specs.List.{sum_by}
use Rattle.l6_draw.proofs.Summing.{place_small, size_in, used_all, used_small}
use Rattle.l6_draw.proofs.store_maps.used_in.Goals as goal

pub overflow_cast-used : goal.overflow_cast-used
overflow_cast-used g c =
    let store = g.S.Places.store c.args.store.now in
    let sound = c.units-units.ensures.sound in
    let small = place_small store.units store.blocks store.blocks refl sound.fits sound.most
    c.args.places.now c.loop-place.place-index c.requires c.loop-place-test.true c.words_at.result.now
    c.words_at.ensures.value in
    omega arith

pub overflow_add-used : goal.overflow_add-used
overflow_add-used g c =
    let store = g.S.Places.store c.args.store.now in
    let sound = c.units-units.ensures.sound in
    let small = used_small store.units store.blocks sound.fits sound.most c.args.places.now
    c.loop-place.place-index c.loop-place.used c.requires c.loop-place-test.true
    c.loop-place.invariant c.words_at.result.now c.words_at.ensures.value in
    omega arith

pub returns-clause-within : goal.returns-clause-within
returns-clause-within g c =
    let store = g.S.Places.store c.args.store.now in
    used_all store.units store.blocks c.units-units.ensures.sound.fits c.args.places.now
    c.loop-place.used
    (sum_by (size_in store.blocks) (drop c.loop-place.place-index c.args.places.now)) c.requires
    c.loop-place.invariant
