use Rattle.std.proofs.Common.{◌≡◌, false, inl, inr, refl}
use Rattle.std.proofs.lemmas.Result.{err_from_is_err_and}
use Rattle.l6_device.specs.Patience.{reports_read, reported_by}
use Rattle.l6_device.specs.declared.fault.Part.{Part}
use Rattle.l6_device.specs.declared.fault.Part.TheVariants.{Image, Input}
use Rattle.l6_device.proofs.DeviceUses.{retries_alone, retries_first, retries_more, unreported_other, unreported_writer}
use Rattle.l6_run.specs.Prints.{PrintsLoaded, RefusesImage}
use Rattle.l6_run.proofs.Servings.{unreported_reader}
use Rattle.l6_run.proofs.runner.run_image.Goals as goal

-- the text was read whole, and the input was not
pub returns-in_err-given-clause-done : goal.returns-in_err-given-clause-done
returns-in_err-given-clause-done g c =
    let p = err_from_is_err_and c.from_residual-in_err-given.result
    c.from_residual-in_err-given.ensures.1 in
    rw (p.1, p.2)
    (inl (
      c.in_ok-text.text.items,
      c.in_ok-text.ensures.bytes,
      inr (c.in_err-given.ensures.bytes, refl),
    ))

-- the text was not read whole: the others were not asked
pub returns-in_err-text-clause-retries : goal.returns-in_err-text-clause-retries
returns-in_err-text-clause-retries g c =
    let p = err_from_is_err_and c.from_residual.result c.from_residual.ensures.1 in
    let ends = c.in_err-text.ensures.bytes in
    rw (p.1, p.2)
    (retries_alone _ _ _ c.new-patience.ensures (retries_first _ _ _ _ c.in_err-text.ensures.retries (
      (refl, unreported_other Image Input _ _ _ refl ends),
      ((refl, unreported_writer Image _ _ _ ends), tt),
    )))

-- the input was not read whole: the writer was not asked
pub returns-in_err-given-clause-retries : goal.returns-in_err-given-clause-retries
returns-in_err-given-clause-retries g c =
    let p = err_from_is_err_and c.from_residual-in_err-given.result
    c.from_residual-in_err-given.ensures.1 in
    let ends = c.in_err-given.ensures.bytes in
    rw (p.1, p.2)
    (retries_alone _ _ _ c.new-patience.ensures
    (retries_more _ _ _ _ _ _ _ (unreported_other Input Image _ _ _ refl ends) c.in_ok-text.ensures.retries
    (retries_first _ _ _ _ c.in_err-given.ensures.retries
    ((refl, unreported_writer Input _ _ _ ends), tt))))

-- both were read whole
pub returns-clause-retries : goal.returns-clause-retries
returns-clause-retries g c =
    let image = c.as_slice.result.now in
    let input = c.as_slice-2.result.now in
    let unreported : (part : Part) → reported_by (reports_read part) c.run_image_text.result ≡ false =
    λ part. unreported_reader (PrintsLoaded c.args.options image input) (RefusesImage image input) part
    (g.W.Sink.taken c.args.writer.now)
    (g.W.Sink.taken c.run_image_text.new.writer) c.run_image_text.result
    (λ _ refused. refused) c.run_image_text.ensures.done in
    retries_alone _ _ _ c.new-patience.ensures
    (retries_more _ _ _ _ _ _ _ (unreported Image) c.in_ok-text.ensures.retries
    (retries_more _ _ _ _ _ _ _ (unreported Input) c.in_ok-given.ensures.retries
    c.run_image_text.ensures.retries))
