use Rattle.std.proofs.Common.{refl}
use Rattle.std.proofs.lemmas.Result.{err_from_is_err_and}
use Rattle.l6_device.specs.declared.fault.Part.TheVariants.{Job}
use Rattle.l6_device.proofs.DeviceUses.{retries_alone, retries_unasked, unreported_writer}
use Rattle.l6.proofs.Serving.{retries_read}
use Rattle.l6.proofs.job.perform.Goals as goal

-- the job was not read whole: the writer was not asked
pub returns-in_err-job-clause-reader_retries : goal.returns-in_err-job-clause-reader_retries
returns-in_err-job-clause-reader_retries g c =
    let p = err_from_is_err_and c.from_residual.result c.from_residual.ensures.1 in
    rw (p.1, p.2) (retries_alone _ _ _ c.new.ensures c.in_err-job.ensures.retries)

pub returns-in_err-job-clause-writer_retries : goal.returns-in_err-job-clause-writer_retries
returns-in_err-job-clause-writer_retries g c =
    let p = err_from_is_err_and c.from_residual.result c.from_residual.ensures.1 in
    rw (p.1, p.2)
    (retries_unasked _ ((refl, unreported_writer Job _ _ _ c.in_err-job.ensures.bytes), tt))

-- it was read whole
pub returns-clause-reader_retries : goal.returns-clause-reader_retries
returns-clause-reader_retries g c =
    retries_read c.args.verb c.args.options c.as_slice.result.now
    (g.W.Sink.taken c.args.writer.now) (g.W.Sink.taken c.serve.new.writer) c.serve.result
    _ _ _ _ c.new.ensures c.in_ok-job.ensures.retries c.serve.ensures.done
