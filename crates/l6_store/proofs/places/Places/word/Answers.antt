use Rattle.std.proofs.Common.{◌≡◌, ℕ, ◌≤◌, List, length, get_or, Some, refl, sym, ap, ◌∙◌, arith}
use Rattle.std.proofs.lemmas.Option.{slice_get_past, slice_get_read}
use Rattle.std.specs.List.{slice_get}
use Rattle.l6_store.specs.Blocks.{block_at, end_of}
use Rattle.l6_store.proofs.Live.{few_words, no_word_past}
use Rattle.l6_store.proofs.places.Places.word.Goals as goal

pub returns-then-end-get-clause-value : goal.returns-then-end-get-clause-value
returns-then-end-get-clause-value g c =
    let store = g.Self.Places.store c.args.self.now in
    let past : end_of store.units ≤ c.args.start
    = omega (arith, c.units.ensures.value, c.get.ensures.value, c.end_of.ensures, c.from-end.ensures) in
    sym (no_word_past store.units store.blocks c.units.ensures.sound.fits c.args.start c.args.index
    past)

pub returns-in_err-word-clause-value : goal.returns-in_err-word-clause-value
returns-in_err-word-clause-value g c =
    c.from_residual-in_err-word.ensures
    ∙ sym (ap (λ (words : List ℕ). slice_get words c.args.index)
    (sym (c.block.ensures.value
    ∙ ap (block_at (g.Self.Places.store c.args.self.now).blocks) c.get-2.ensures.value))
    ∙ slice_get_past c.block.result.now c.args.index
    (omega (arith, c.in_err-word.ensures.lookup, c.from.ensures)))

pub returns-clause-value : goal.returns-clause-value
returns-clause-value g c =
    ap (λ (w : ℕ). Some w) c.from_value.ensures
    ∙ sym (ap (λ (words : List ℕ). slice_get words c.args.index)
    (sym (c.block.ensures.value
    ∙ ap (block_at (g.Self.Places.store c.args.self.now).blocks) c.get-2.ensures.value))
    ∙ slice_get_read c.block.result.now (length c.block.result.now) c.args.index
    c.in_ok-word.word.now refl (omega (arith, c.in_ok-word.ensures.lookup, c.from.ensures))
    (c.in_ok-word.ensures.lookup.3.1 c.in_ok-word.word.now
    ∙ ap (λ (i : ℕ). get_or c.block.result.now i c.in_ok-word.word.now) c.from.ensures))

pub returns-clause-near : goal.returns-clause-near
returns-clause-near g c =
    let store = g.Self.Places.store c.args.self.now in
    let words : length c.block.result.now ≡ length (block_at store.blocks c.args.start)
    = ap (λ (ws : List ℕ). length ws)
    (c.block.ensures.value ∙ ap (block_at store.blocks) c.get-2.ensures.value) in (
      omega (arith, c.end_of.ensures, c.from-end.ensures, c.units.ensures.value, c.units.ensures.sound.most, c.get.ensures.value),
      omega (
        arith,
        words,
        few_words store.units store.blocks c.units.ensures.sound.fits c.args.start,
        c.in_ok-word.ensures.lookup,
        c.from.ensures,
      ),
    )
