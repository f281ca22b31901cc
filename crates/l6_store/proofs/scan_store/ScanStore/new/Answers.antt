use Rattle.std.proofs.Common.{arith}
use Rattle.l6_store.proofs.Kept.{sound_of}
use Rattle.l6_store.proofs.Calls.{made_kept, empty_store}
use Rattle.l6_store.proofs.scan_store.ScanStore.new.Goals as goal

pub returns-clause-fresh : goal.returns-clause-fresh
returns-clause-fresh c =
    empty_store c.args.units c.end_of-places.result c.in_ok-vec.field-0.items
    c.in_ok-vec-2.field-0.items
    (c.in_ok-vec.ensures.items_if_clones_equal (λ y same. same))

pub returns-clause-sound : goal.returns-clause-sound
returns-clause-sound c =
    sound_of c.args.units c.in_ok-vec.field-0.items c.in_ok-vec-2.field-0.items
    (made_kept c.args.units c.end_of-places.result c.in_ok-vec.field-0.items
    c.in_ok-vec-2.field-0.items
    (omega arith) (omega arith) c.end_of-places.ensures
    (c.in_ok-vec.ensures.items_if_clones_equal (λ y same. same))
    (c.in_ok-vec-2.ensures.items_if_clones_equal (λ y same. same)))
