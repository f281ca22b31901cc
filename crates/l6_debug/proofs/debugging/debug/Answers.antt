use Rattle.std.proofs.Common.{◌≡◌, false, List, ℕ, inl, inr, refl, subst}
use Rattle.std.proofs.lemmas.Result.{err_from_is_err_and}
use Rattle.l6_device.specs.Patience.{reports_read, reported_by}
use Rattle.l6_device.specs.declared.fault.Part.{Part}
use Rattle.l6_device.specs.declared.fault.Part.TheVariants.{Deck, Input, Commands}
use Rattle.l6_device.proofs.DeviceUses.{retries_alone, retries_first, retries_more, unreported_other, unreported_writer}
use Rattle.l6_debug.specs.Serving.{ServesSession}
use Rattle.l6_debug.proofs.Sessions.{unreported_debugger_state}
use Rattle.l6_debug.proofs.debugging.debug.Goals as goal

-- the deck was read whole, and the input was not
pub returns-in_err-lines-clause-done : goal.returns-in_err-lines-clause-done
returns-in_err-lines-clause-done g c =
    let p = err_from_is_err_and c.from_residual-in_err-lines.result
    c.from_residual-in_err-lines.ensures.1 in
    rw (p.1, p.2)
    (inl (
      c.in_ok-cards.cards.items,
      c.in_ok-cards.ensures.bytes,
      inr (c.in_err-lines.ensures.bytes, refl),
    ))

-- deck and input were read whole, and the commands were not
pub returns-in_err-asked-clause-done : goal.returns-in_err-asked-clause-done
returns-in_err-asked-clause-done g c =
    let p = err_from_is_err_and c.from_residual-in_err-asked.result
    c.from_residual-in_err-asked.ensures.1 in
    rw (p.1, p.2)
    (inl (
      c.in_ok-cards.cards.items,
      c.in_ok-cards.ensures.bytes,
      inl (
        c.in_ok-lines.lines.items,
        c.in_ok-lines.ensures.bytes,
        inr (c.in_err-asked.ensures.bytes, refl),
      ),
    ))

-- all three were read whole
pub returns-clause-done : goal.returns-clause-done
returns-clause-done g c =
    let options = c.args.options in
    let old = g.W.Sink.taken c.args.writer.now in
    let new = g.W.Sink.taken c.debug_deck.new.writer in
    let result = c.debug_deck.result in
    let lines = c.as_slice-2.result.now in
    let asked = c.as_slice-3.result.now in
    inl (
      c.in_ok-cards.cards.items,
      c.in_ok-cards.ensures.bytes,
      inl (
        c.in_ok-lines.lines.items,
        c.in_ok-lines.ensures.bytes,
        inl (
          c.in_ok-asked.asked.items,
          c.in_ok-asked.ensures.bytes,
          subst (λ (l : List ℕ). ServesSession options c.in_ok-cards.cards.items
              c.in_ok-lines.lines.items l
              old new result) c.as_slice-3.ensures.value
              (subst (λ (l : List ℕ). ServesSession options c.in_ok-cards.cards.items l asked old
              new result)
              c.as_slice-2.ensures.value
              (subst (λ (l : List ℕ). ServesSession options l lines asked old new result)
              c.as_slice.ensures.value
              c.debug_deck.ensures.done)),
        ),
      ),
    )

-- the deck was not read whole: the others were not asked
pub returns-in_err-cards-clause-retries : goal.returns-in_err-cards-clause-retries
returns-in_err-cards-clause-retries g c =
    let p = err_from_is_err_and c.from_residual.result c.from_residual.ensures.1 in
    let ends = c.in_err-cards.ensures.bytes in
    rw (p.1, p.2)
    (retries_alone _ _ _ c.new-patience.ensures (retries_first _ _ _ _ c.in_err-cards.ensures.retries (
      (refl, unreported_other Deck Input _ _ _ refl ends),
      (
        (refl, unreported_other Deck Commands _ _ _ refl ends),
        ((refl, unreported_writer Deck _ _ _ ends), tt),
      ),
    )))

-- the input was not read whole: commands and writer were not asked
pub returns-in_err-lines-clause-retries : goal.returns-in_err-lines-clause-retries
returns-in_err-lines-clause-retries g c =
    let p = err_from_is_err_and c.from_residual-in_err-lines.result
    c.from_residual-in_err-lines.ensures.1 in
    let ends = c.in_err-lines.ensures.bytes in
    rw (p.1, p.2)
    (retries_alone _ _ _ c.new-patience.ensures
    (retries_more _ _ _ _ _ _ _ (unreported_other Input Deck _ _ _ refl ends) c.in_ok-cards.ensures.retries
    (retries_first _ _ _ _ c.in_err-lines.ensures.retries (
      (refl, unreported_other Input Commands _ _ _ refl ends),
      ((refl, unreported_writer Input _ _ _ ends), tt),
    ))))

-- the commands were not read whole: the writer was not asked
pub returns-in_err-asked-clause-retries : goal.returns-in_err-asked-clause-retries
returns-in_err-asked-clause-retries g c =
    let p = err_from_is_err_and c.from_residual-in_err-asked.result
    c.from_residual-in_err-asked.ensures.1 in
    let ends = c.in_err-asked.ensures.bytes in
    rw (p.1, p.2)
    (retries_alone _ _ _ c.new-patience.ensures
    (retries_more _ _ _ _ _ _ _ (unreported_other Commands Deck _ _ _ refl ends)
    c.in_ok-cards.ensures.retries
    (retries_more _ _ _ _ _ _ _ (unreported_other Commands Input _ _ _ refl ends)
    c.in_ok-lines.ensures.retries
    (retries_first _ _ _ _ c.in_err-asked.ensures.retries
    ((refl, unreported_writer Commands _ _ _ ends), tt)))))

-- all three were read whole
pub returns-clause-retries : goal.returns-clause-retries
returns-clause-retries g c =
    let unreported : (part : Part) → reported_by (reports_read part) c.debug_deck.result ≡ false =
    λ part. unreported_debugger_state c.args.options c.as_slice.result.now c.as_slice-2.result.now
    c.as_slice-3.result.now part (g.W.Sink.taken c.args.writer.now)
    (g.W.Sink.taken c.debug_deck.new.writer) c.debug_deck.result c.debug_deck.ensures.done in
    retries_alone _ _ _ c.new-patience.ensures
    (retries_more _ _ _ _ _ _ _ (unreported Deck) c.in_ok-cards.ensures.retries
    (retries_more _ _ _ _ _ _ _ (unreported Input) c.in_ok-lines.ensures.retries
    (retries_more _ _ _ _ _ _ _ (unreported Commands) c.in_ok-asked.ensures.retries
    c.debug_deck.ensures.retries)))
