use Rattle.std.proofs.Common.{◌≡◌, ℕ, ◌≤◌, List, length, ap, ◌∙◌, arith}
use Rattle.l6_store.specs.Blocks.{block_at, end_of}
use Rattle.l6_store.proofs.Live.{few_words}
use Rattle.l6_history.proofs.Blocks.{none_past}
use Rattle.l6_history.proofs.block_watch.words_in.Goals as goal

-- past the store no block begins
pub returns-then-end-get-clause-value : goal.returns-then-end-get-clause-value
returns-then-end-get-clause-value g c =
    let store = g.S.Places.store c.args.store.now in
    let past : end_of store.units ≤ c.args.place
    = omega (arith, c.units.ensures.value, c.get.ensures.value, c.end_of.ensures, c.from-end.ensures) in
    none_past store.units store.blocks c.units.ensures.sound.fits c.args.place past

-- no block is larger than a unit
pub returns-clause-few : goal.returns-clause-few
returns-clause-few g c =
    let store = g.S.Places.store c.args.store.now in
    let words : length c.block.result.now ≡ length (block_at store.blocks c.args.place)
    = ap (λ (ws : List ℕ). length ws)
    (c.block.ensures.value ∙ ap (block_at store.blocks) c.get-2.ensures.value) in
    omega (
      arith,
      words,
      few_words store.units store.blocks c.units.ensures.sound.fits c.args.place,
    )
