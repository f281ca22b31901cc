use Rattle.std.proofs.Common.{◌≡◌, ◌*◌, ◌+◌, arith, ap, sym, ◌∙◌, rules}
use Rattle.l6_word.specs.Numerals.{unit_size}
use Rattle.l6_store.specs.Blocks.{end_of}
use Rattle.l6_debug.proofs.Lines.{none_past}
use Rattle.l6_debug.proofs.showing.block_at.Goals as goal

pub returns-then-end-place-clause-value : goal.returns-then-end-place-clause-value
returns-then-end-place-clause-value g c =
    let store = g.S.Places.store c.args.store.now in
    let one : c.from.result ≡ store.units + 1 = search rules in
    let other : c.from-2.result ≡ unit_size = search rules in
    let end : end_of store.units ≡ c.from.result * c.from-2.result =
    sym (ap (λ n. c.from.result * n) other ∙ ap (λ n. n * unit_size) one ∙ omega arith) in
    none_past store.units store.blocks c.units.ensures.sound.fits c.args.place
    (omega (arith, end, c.if-end-place.true))
