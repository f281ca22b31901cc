-- What becomes of a job.
use Rattle.std.specs.Prelude.{List, ℕ, Option, Result, Ok}
use Rattle.l6_machine.specs.Options.{OptionValues}
use Rattle.l6_device.specs.Transfer.{Reads}
use Rattle.l6_device.specs.declared.fault.Part.TheVariants.{Job}
use Rattle.l6_device.specs.declared.fault.RunFault.{RunFault}
use Rattle.l6_run.specs.Explains.{Explains}
use Rattle.l6_run.specs.Prints.{Prints, PrintsLoaded, RefusesDeck, RefusesImage}
use Rattle.l6_run.specs.Serves.{IsUnwritten, Serves}
use Rattle.l6_run.specs.Texts.{RefusesCards, RefusesRewriting, RewritesImage, WritesImage, WritesListing}
use Rattle.l6_debug.specs.Serving as sessions
use Rattle.l6_debug.specs.Serving.{IsRefused}
use Rattle.l6.specs.Checks.{ChecksDeck, RefusesCheck}
use Rattle.l6_device.specs.JobParts.{commands_of, deck_of, head_of, input_of}
use Rattle.l6.specs.declared.job.Outcome.{Outcome}
use Rattle.l6.specs.declared.job.Outcome.TheVariants.{Checked, Explained, Ran, Written}
use Rattle.l6.specs.declared.job.Verb.{Verb}
use Rattle.l6.specs.declared.job.Verb.TheVariants as verbs

-- what a verb answers to a job, and with which text: the head of the job is a deck, or the text of an
-- image
abbrev pub Answers : Verb → OptionValues → List ℕ → Outcome → List ℕ → Type 0
Answers verbs.Asm options job Written text = WritesImage (head_of job) text
Answers verbs.List options job Written text = WritesListing (head_of job) text
Answers (verbs.Check shown) options job (Checked errors) text = ChecksDeck (head_of job) errors text
Answers verbs.Run options job (Ran ending) text =
    Prints options (head_of job) (input_of job) ending text
Answers verbs.Explain options job (Explained explained) text =
    Explains options (head_of job) (input_of job) explained text
Answers verbs.Load options job (Ran ending) text =
    PrintsLoaded options (head_of job) (input_of job) ending text
Answers verbs.Renew options job Written text = RewritesImage (head_of job) text
Answers verb options job outcome text = ⊥

-- why a job is refused
abbrev pub Refuses : Verb → List ℕ → RunFault → Type 0
Refuses verbs.Asm job fault = RefusesCards (head_of job) fault
Refuses verbs.List job fault = RefusesCards (head_of job) fault
Refuses (verbs.Check shown) job fault = RefusesCheck (head_of job) fault
Refuses verbs.Run job fault = RefusesDeck (head_of job) (input_of job) fault
Refuses verbs.Explain job fault = RefusesDeck (head_of job) (input_of job) fault
Refuses verbs.Load job fault = RefusesImage (head_of job) (input_of job) fault
Refuses verbs.Renew job fault = RefusesRewriting (head_of job) fault
Refuses verb job fault = ⊥

-- what became of a job that was read whole, and what went out for it. The debugger writes each answer
-- before it obeys the next command, so some may have gone out where memory runs out later
abbrev pub JobOutcome : Verb → OptionValues → List ℕ → Option (List ℕ) → Option (List ℕ) →
    Result Outcome RunFault → Type 0
JobOutcome verbs.Debug options job taken taken' (Ok (Checked errors)) = ⊥
JobOutcome verbs.Debug options job taken taken' (Ok (Ran ending)) = ⊥
JobOutcome verbs.Debug options job taken taken' (Ok (Explained explained)) = ⊥
JobOutcome verbs.Debug options job taken taken' result =
    sessions.ServesSession options (deck_of (head_of job)) (input_of job) (commands_of (head_of job))
    taken taken' result
JobOutcome verb options job taken taken' result =
    Serves (Answers verb options job) (Refuses verb job) taken taken' result

-- what became of a job: what the reader gave, and what went out for it
abbrev pub JobResult : Verb → OptionValues → Option (List ℕ) → Option (List ℕ) → Option (List ℕ) →
    Option (List ℕ) →
    Result Outcome RunFault → Type 0
JobResult verb options left left' taken taken' result =
    Reads Job left left' taken taken' (λ job. JobOutcome verb options job taken taken' result) result

-- nothing can have gone out: the job was refused, and not in the midst of a session
abbrev pub IsUnwrittenBy : Verb → Result Outcome RunFault → Type 0
IsUnwrittenBy verbs.Debug result = IsRefused result
IsUnwrittenBy verb result = IsUnwritten result
