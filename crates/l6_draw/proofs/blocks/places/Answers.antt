use Rattle.std.proofs.Common.{arith, refl, rules}
use Rattle.l6_draw.proofs.Scanning.{scan_begins, scan_passes, scan_finds, scanned_all}
use Rattle.l6_draw.proofs.blocks.places.Goals as goal

pub loop-place-init : goal.loop-place-init
loop-place-init g c =
    let store = g.S.Places.store c.args.store.now in
    scan_begins store.units store.blocks c.units.ensures.sound.fits c.from-place.result
    c.in_ok-places.places.items c.from-place.ensures c.in_ok-places.ensures.items

pub loop-place-preserved-in-None : goal.loop-place-preserved-in-None
loop-place-preserved-in-None g c =
    let store = g.S.Places.store c.args.store.now in
    scan_passes store.blocks c.loop-place.place c.from_value.result c.loop-place.places.items
    (search rules) (λ live. let determined = (c.in-None.ensures.live).1 live in search rules)
    c.loop-place.invariant

pub loop-place-preserved : goal.loop-place-preserved
loop-place-preserved g c =
    let store = g.S.Places.store c.args.store.now in
    scan_finds store.units store.blocks c.units.ensures.sound.fits c.loop-place.place
    c.from_value.result
    c.in-Some.level c.loop-place.places.items c.push.new.self.items
    (search rules) ((c.in-Some.ensures.live).0 refl) c.in-Some.ensures.size c.in-Some.ensures.level
    c.in_ok-push-in-Some.ensures.items c.loop-place.invariant

pub returns : goal.returns
returns g c =
    let store = g.S.Places.store c.args.store.now in
    scanned_all store.units store.blocks c.units.ensures.sound.fits c.loop-place.place
    c.loop-place.places.items
    (let end = c.end_of-end.ensures in let past = c.loop-place-test.false in omega arith)
    c.loop-place.invariant
