use Rattle.std.proofs.Common.{◌≡◌, false, inl, inr, refl}
use Rattle.std.proofs.lemmas.Result.{err_from_is_err_and}
use Rattle.l6_device.specs.Patience.{reports_read, reported_by}
use Rattle.l6_device.specs.declared.fault.Part.{Part}
use Rattle.l6_device.specs.declared.fault.Part.TheVariants.{Deck, Input}
use Rattle.l6_device.proofs.DeviceUses.{retries_alone, retries_first, retries_more, unreported_other, unreported_writer}
use Rattle.l6_run.specs.Prints.{Prints, RefusesDeck}
use Rattle.l6_run.proofs.Servings.{unreported_reader}
use Rattle.l6_run.proofs.runner.run.Goals as goal

-- the deck was read whole, and the input was not
pub returns-in_err-lines-clause-done : goal.returns-in_err-lines-clause-done
returns-in_err-lines-clause-done g c =
    let p = err_from_is_err_and c.from_residual-in_err-lines.result
    c.from_residual-in_err-lines.ensures.1 in
    rw (p.1, p.2)
    (inl (
      c.in_ok-cards.cards.items,
      c.in_ok-cards.ensures.bytes,
      inr (c.in_err-lines.ensures.bytes, refl),
    ))

-- the deck was not read whole: the others were not asked
pub returns-in_err-cards-clause-retries : goal.returns-in_err-cards-clause-retries
returns-in_err-cards-clause-retries g c =
    let p = err_from_is_err_and c.from_residual.result c.from_residual.ensures.1 in
    let ends = c.in_err-cards.ensures.bytes in
    rw (p.1, p.2)
    (retries_alone _ _ _ c.new-patience.ensures (retries_first _ _ _ _ c.in_err-cards.ensures.retries (
      (refl, unreported_other Deck Input _ _ _ refl ends),
      ((refl, unreported_writer Deck _ _ _ ends), tt),
    )))

-- the input was not read whole: the writer was not asked
pub returns-in_err-lines-clause-retries : goal.returns-in_err-lines-clause-retries
returns-in_err-lines-clause-retries g c =
    let p = err_from_is_err_and c.from_residual-in_err-lines.result
    c.from_residual-in_err-lines.ensures.1 in
    let ends = c.in_err-lines.ensures.bytes in
    rw (p.1, p.2)
    (retries_alone _ _ _ c.new-patience.ensures
    (retries_more _ _ _ _ _ _ _ (unreported_other Input Deck _ _ _ refl ends) c.in_ok-cards.ensures.retries
    (retries_first _ _ _ _ c.in_err-lines.ensures.retries
    ((refl, unreported_writer Input _ _ _ ends), tt))))

-- both were read whole
pub returns-clause-retries : goal.returns-clause-retries
returns-clause-retries g c =
    let deck = c.as_slice.result.now in
    let input = c.as_slice-2.result.now in
    let unreported : (part : Part) → reported_by (reports_read part) c.run_deck.result ≡ false =
    λ part. unreported_reader (Prints c.args.options deck input) (RefusesDeck deck input) part
    (g.W.Sink.taken c.args.writer.now) (g.W.Sink.taken c.run_deck.new.writer) c.run_deck.result
    (λ _ refused. refused) c.run_deck.ensures.done in
    retries_alone _ _ _ c.new-patience.ensures
    (retries_more _ _ _ _ _ _ _ (unreported Deck) c.in_ok-cards.ensures.retries
    (retries_more _ _ _ _ _ _ _ (unreported Input) c.in_ok-lines.ensures.retries
    c.run_deck.ensures.retries))
