use Rattle.std.proofs.Common.{◌++◌, get_or, arith, ap, length, ◌∙◌}
use Rattle.std.specs.List.{flat_map}
use Rattle.l6_word.specs.Numerals.{unit_size}
use Rattle.l6_store.specs.Blocks.{Blocks, block_at}
use Rattle.l6_draw.specs.StoreMap.{line_of, stretches_from}
use Rattle.l6_draw.proofs.Lines.{stretch_more}
use Rattle.l6_draw.proofs.Summing.{place_small}
use Rattle.l6_draw.proofs.store_maps.push_stretches.Goals as goal

pub overflow_cast-size : goal.overflow_cast-size
overflow_cast-size g c =
    let sound = c.units.ensures.sound in
    let small = place_small (g.S.Places.store c.store-store.result.now).units
    (g.S.Places.store c.store-store.result.now).blocks
    c.args.machine.now.configuration.state.memory.blocks
    c.store-store.ensures.blocks sound.fits sound.most c.args.places.now c.loop-place.place-index
    c.requires.places c.loop-place-test.true c.words_at.result.now c.words_at.ensures.value in
    omega arith

pub overflow_add-from : goal.overflow_add-from
overflow_add-from g c =
    let sound = c.units.ensures.sound in
    let small = place_small (g.S.Places.store c.store-store.result.now).units
    (g.S.Places.store c.store-store.result.now).blocks
    c.args.machine.now.configuration.state.memory.blocks
    c.store-store.ensures.blocks sound.fits sound.most c.args.places.now c.loop-place.place-index
    c.requires.places c.loop-place-test.true c.words_at.result.now c.words_at.ensures.value in
    omega arith

pub loop-place-preserved : goal.loop-place-preserved
loop-place-preserved g c =
    let memory = c.args.machine.now.configuration.state.memory in
    let place = get_or c.args.places.now c.loop-place.place-index 0 in
    stretch_more memory c.args.places.now c.loop-place.place-index c.loop-place.from c.end_of-end.result
    c.loop-place.text.items c.push_free.new.text.items c.push_block.new.text.items
    (c.args.text.now.items ++ flat_map (line_of memory)
    (stretches_from memory unit_size c.end_of-end.result c.args.places.now))
    c.is_visited.result c.saturating_sub.result (length c.words_at.result.now) c.loop-place-test.true
    c.saturating_sub.ensures c.in_ok-push_free.ensures
    (ap length c.words_at.ensures.value
    ∙ ap (λ (blocks : Blocks). length (block_at blocks place)) c.store-store.ensures.blocks)
    (c.is_visited.ensures ∙ c.requires.visited place) c.in_ok-push_block.ensures c.loop-place.invariant
