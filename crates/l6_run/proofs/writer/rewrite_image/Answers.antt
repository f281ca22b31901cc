use Rattle.std.proofs.Common.{refl}
use Rattle.std.proofs.lemmas.Result.{err_from_is_err_and}
use Rattle.l6_device.specs.declared.fault.Part.TheVariants.{Image}
use Rattle.l6_device.proofs.DeviceUses.{retries_alone, retries_first, retries_more, unreported_writer}
use Rattle.l6_run.specs.Texts.{RefusesRewriting, RewritesImage}
use Rattle.l6_run.proofs.Servings.{unreported_reader}
use Rattle.l6_run.proofs.writer.rewrite_image.Goals as goal

-- the image was not read whole: the writer was not asked
pub returns-in_err-text-clause-retries : goal.returns-in_err-text-clause-retries
returns-in_err-text-clause-retries g c =
    let p = err_from_is_err_and c.from_residual.result c.from_residual.ensures.1 in
    rw (p.1, p.2)
    (retries_alone _ _ _ c.new-patience.ensures (retries_first _ _ _ _ c.in_err-text.ensures.retries
    ((refl, unreported_writer Image _ _ _ c.in_err-text.ensures.bytes), tt)))

-- it was read whole
pub returns-clause-retries : goal.returns-clause-retries
returns-clause-retries g c =
    let image = c.as_slice.result.now in
    retries_alone _ _ _ c.new-patience.ensures
    (retries_more _ _ _ _ _ _ _
    (unreported_reader (λ _ text. RewritesImage image text) (RefusesRewriting image) Image
    (g.W.Sink.taken c.args.writer.now) (g.W.Sink.taken c.rewrite_image_text.new.writer)
    c.rewrite_image_text.result
    (λ _ refused. refused) c.rewrite_image_text.ensures.done)
    c.in_ok-text.ensures.retries c.rewrite_image_text.ensures.retries)
