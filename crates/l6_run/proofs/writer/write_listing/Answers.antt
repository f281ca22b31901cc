use Rattle.std.proofs.Common.{refl}
use Rattle.std.proofs.lemmas.Result.{err_from_is_err_and}
use Rattle.l6_device.specs.declared.fault.Part.TheVariants.{Deck}
use Rattle.l6_device.proofs.DeviceUses.{retries_alone, retries_first, retries_more, unreported_writer}
use Rattle.l6_run.specs.Texts.{RefusesCards, WritesListing}
use Rattle.l6_run.proofs.Servings.{unreported_reader}
use Rattle.l6_run.proofs.writer.write_listing.Goals as goal

-- the deck was not read whole: the writer was not asked
pub returns-in_err-cards-clause-retries : goal.returns-in_err-cards-clause-retries
returns-in_err-cards-clause-retries g c =
    let p = err_from_is_err_and c.from_residual.result c.from_residual.ensures.1 in
    rw (p.1, p.2)
    (retries_alone _ _ _ c.new-patience.ensures (retries_first _ _ _ _ c.in_err-cards.ensures.retries
    ((refl, unreported_writer Deck _ _ _ c.in_err-cards.ensures.bytes), tt)))

-- it was read whole
pub returns-clause-retries : goal.returns-clause-retries
returns-clause-retries g c =
    let deck = c.as_slice.result.now in
    retries_alone _ _ _ c.new-patience.ensures
    (retries_more _ _ _ _ _ _ _
    (unreported_reader (λ _ text. WritesListing deck text) (RefusesCards deck) Deck
    (g.W.Sink.taken c.args.writer.now) (g.W.Sink.taken c.write_deck_listing.new.writer)
    c.write_deck_listing.result
    (λ _ refused. refused) c.write_deck_listing.ensures.done)
    c.in_ok-cards.ensures.retries c.write_deck_listing.ensures.retries)
