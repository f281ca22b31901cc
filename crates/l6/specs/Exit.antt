-- How the process ends.
use Rattle.std.specs.Prelude.{◌≡◌, ℕ, Bool, List, Option, Result, Ok, Err}
use Rattle.l6_device.specs.declared.fault.RunFault.{RunFault}
use Rattle.l6.specs.JobResult.{JobResult}
use Rattle.l6.specs.Status.{status_of, status_of_words}
use Rattle.l6.specs.TraceStatus.{status_of_trace}
use Rattle.l6.specs.declared.arguments.Task.{Task}
use Rattle.l6.specs.declared.arguments.Task.TheVariants.{Job, Trace, Help}
use Rattle.l6.specs.declared.arguments.WordsFault.{WordsFault}
use Rattle.l6.specs.declared.job.Outcome.{Outcome}
use Rattle.l6.specs.declared.tracing.TracingFault.{TracingFault}

-- the process ends with this status: that of the answer to the job, which became what the verb makes of
-- it; or that of a trace; or that of a help, for which nothing is read; or that of words that ask for nothing, and
-- then nothing is read and nothing goes out
abbrev pub Exits : Result Task WordsFault → Option (List ℕ) → Option (List ℕ) → Option (List ℕ) →
    Option (List ℕ) → ℕ → Type 0
Exits (Ok (Job asked)) left left' taken taken' status =
    (answer : Result Outcome RunFault)
    × JobResult asked.verb asked.options left left' taken taken' answer
    × (status ≡ status_of answer)
Exits (Ok (Trace trying)) left left' taken taken' status =
    (answer : Result Bool TracingFault) × (status ≡ status_of_trace answer)
Exits (Ok (Help text)) left left' taken taken' status =
    (answer : Result Outcome RunFault) × (left' ≡ left) × (status ≡ status_of answer)
Exits (Err fault) left left' taken taken' status =
    (left' ≡ left) × (taken' ≡ taken) × (status ≡ status_of_words fault)
