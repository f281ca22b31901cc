-- Refusals pass from the call that serves a verb to the job.
use Rattle.std.proofs.Common.{◌≡◌, Bool, false, ℕ, List, [], ◌∷◌, Option, Result, Ok, Err, inl, inr, refl, subst, sym}
use Rattle.l6_machine.specs.Options.{OptionValues}
use Rattle.l6_machine.specs.declared.ending.Ending.{Ending}
use Rattle.l6_device.specs.Device.{Health}
use Rattle.l6_device.specs.Numerals.{most_retries}
use Rattle.l6_device.specs.Patience.{RetriesAccounted, RetriesAccountedWith, device_use, reader_use, reports_read, reported_by}
use Rattle.l6_device.specs.declared.fault.Part.{Part}
use Rattle.l6_device.specs.declared.fault.Part.TheVariants.{Deck, Image, Input, Commands, Job}
use Rattle.l6_device.specs.declared.fault.RunFault.{RunFault}
use Rattle.l6_device.specs.declared.fault.RunFault.TheVariants.{TooLong, Asm, Load, Read, Write, NoMemory}
use Rattle.l6_device.proofs.DeviceUses.{retries_alone}
use Rattle.l6_run.specs.Explains.{Explains}
use Rattle.l6_run.specs.declared.explained.Explained as explained
use Rattle.l6_run.specs.Prints.{Prints, PrintsLoaded, RefusesDeck, RefusesImage}
use Rattle.l6_run.specs.Serves.{Serves}
use Rattle.l6_run.specs.Texts.{RefusesCards, RefusesRewriting, RewritesImage, WritesImage}
use Rattle.l6_run.proofs.Servings.{unreported_reader}
use Rattle.l6_debug.proofs.Sessions.{unreported_debugger_state}
use Rattle.l6_debug.specs.Serving as sessions
use Rattle.l6.specs.declared.job.Outcome.{Outcome}
use Rattle.l6.specs.declared.job.Outcome.TheVariants.{Checked, Explained, Ran, Written}
use Rattle.l6.specs.declared.job.Verb.{Verb}
use Rattle.l6.specs.declared.job.Verb.TheVariants as verbs
use Rattle.l6.specs.Checks.{ChecksDeck, RefusesCheck}
use Rattle.l6.specs.declared.checking.Shown.{Shown}
use Rattle.l6_device.specs.JobParts.{commands_of, deck_of, head_of, input_of}
use Rattle.l6.specs.JobResult.{Answers, JobOutcome, Refuses}

-- a call that is refused is so, whatever an outcome is called that it might have had
renamed : (Outcome : Type 0) (Other : Type 0) (call : Outcome → Other)
    (Said : Outcome → List ℕ → Type 0) (SaidSo : Other → List ℕ → Type 0)
    (Stops : RunFault → Type 0) (old new : Option (List ℕ)) (fault : RunFault) →
    ((outcome : Outcome) (text : List ℕ) → Said outcome text → SaidSo (call outcome) text) →
    Serves Said Stops old new (Err fault) → Serves SaidSo Stops old new (Err fault)
renamed Outcome Other call Said SaidSo Stops old new (TooLong part) as_denoted served = served
renamed Outcome Other call Said SaidSo Stops old new (Asm asm) as_denoted served = served
renamed Outcome Other call Said SaidSo Stops old new (Load load) as_denoted served = served
renamed Outcome Other call Said SaidSo Stops old new (Read part) as_denoted served = served
renamed Outcome Other call Said SaidSo Stops old new (Write n) as_denoted served = record {
  outcome = call served.outcome;
  text = served.text;
  answers = as_denoted served.outcome served.text served.answers;
  short = served.short;
  out = served.out;
}
renamed Outcome Other call Said SaidSo Stops old new NoMemory as_denoted served = tt

-- why no image was written of a deck is why the job was not done whose head it is
pub image_refused : (verb : Verb) (options : OptionValues) (job deck : List ℕ)
    (old new : Option (List ℕ)) (fault : RunFault) → verb ≡ verbs.Asm → deck ≡ head_of job →
    Serves (λ (_ : Unit {0}) text. WritesImage deck text) (RefusesCards deck) old new (Err fault) →
    JobOutcome verb options job old new (Err fault)
image_refused verb options job deck old new fault is head served =
    subst (λ (v : Verb). JobOutcome v options job old new (Err fault)) (sym is)
    (renamed Unit Outcome (λ _. Written) (λ _ text. WritesImage (head_of job) text)
    (Answers verbs.Asm options job) (Refuses verbs.Asm job) old new fault
    (λ outcome text answers. answers)
    (subst (λ (d : List ℕ). Serves (λ (_ : Unit {0}) text. WritesImage d text) (RefusesCards d)
    old new (Err fault)) head served))

-- why nothing was said of a deck is why the job was not done whose head it is
pub check_refused : (verb : Verb) (shown : Shown) (options : OptionValues) (job deck : List ℕ)
    (old new : Option (List ℕ)) (fault : RunFault) → verb ≡ verbs.Check shown → deck ≡ head_of job →
    Serves (ChecksDeck deck) (RefusesCheck deck) old new (Err fault) →
    JobOutcome verb options job old new (Err fault)
check_refused verb shown options job deck old new fault is head served =
    subst (λ (v : Verb). JobOutcome v options job old new (Err fault)) (sym is)
    (renamed ℕ Outcome Checked (ChecksDeck (head_of job))
    (Answers (verbs.Check shown) options job) (Refuses (verbs.Check shown) job) old new fault
    (λ outcome text answers. answers)
    (subst (λ (d : List ℕ). Serves (ChecksDeck d) (RefusesCheck d) old new (Err fault)) head served))

-- why an image was not written again is why the job was not done whose head is its text
pub renewal_refused : (verb : Verb) (options : OptionValues) (job image : List ℕ)
    (old new : Option (List ℕ)) (fault : RunFault) → verb ≡ verbs.Renew → image ≡ head_of job →
    Serves (λ (_ : Unit {0}) text. RewritesImage image text) (RefusesRewriting image)
    old new (Err fault) → JobOutcome verb options job old new (Err fault)
renewal_refused verb options job image old new fault is head served =
    subst (λ (v : Verb). JobOutcome v options job old new (Err fault)) (sym is)
    (renamed Unit Outcome (λ _. Written) (λ _ text. RewritesImage (head_of job) text)
    (Answers verbs.Renew options job) (Refuses verbs.Renew job) old new fault
    (λ outcome text answers. answers)
    (subst (λ (d : List ℕ). Serves (λ (_ : Unit {0}) text. RewritesImage d text)
    (RefusesRewriting d) old new (Err fault)) head served))

-- why a deck was not run is why the job was not done whose head it is
pub run_refused : (verb : Verb) (options : OptionValues) (job deck input : List ℕ)
    (old new : Option (List ℕ)) (fault : RunFault) → verb ≡ verbs.Run → deck ≡ head_of job →
    input ≡ input_of job →
    Serves (Prints options deck input) (RefusesDeck deck input) old new (Err fault) →
    JobOutcome verb options job old new (Err fault)
run_refused verb options job deck input old new fault is head following served =
    subst (λ (v : Verb). JobOutcome v options job old new (Err fault)) (sym is)
    (renamed Ending Outcome Ran (Prints options (head_of job) (input_of job))
    (Answers verbs.Run options job) (Refuses verbs.Run job) old new fault
    (λ outcome text answers. answers)
    (subst (λ (d : List ℕ). Serves (Prints options d (input_of job)) (RefusesDeck d (input_of job))
    old new (Err fault)) head
    (subst (λ (i : List ℕ). Serves (Prints options deck i) (RefusesDeck deck i) old new (Err fault))
    following served)))

-- the same of a run that was to be explained
pub explanation_refused : (verb : Verb) (options : OptionValues) (job deck input : List ℕ)
    (old new : Option (List ℕ)) (fault : RunFault) → verb ≡ verbs.Explain → deck ≡ head_of job →
    input ≡ input_of job →
    Serves (Explains options deck input) (RefusesDeck deck input) old new (Err fault) →
    JobOutcome verb options job old new (Err fault)
explanation_refused verb options job deck input old new fault is head following served =
    subst (λ (v : Verb). JobOutcome v options job old new (Err fault)) (sym is)
    (renamed explained.Explained Outcome Explained (Explains options (head_of job) (input_of job))
    (Answers verbs.Explain options job) (Refuses verbs.Explain job) old new fault
    (λ outcome text answers. answers)
    (subst (λ (d : List ℕ). Serves (Explains options d (input_of job)) (RefusesDeck d (input_of job))
    old new (Err fault)) head
    (subst (λ (i : List ℕ). Serves (Explains options deck i) (RefusesDeck deck i) old new (Err fault))
    following served)))

-- why an image was not run is why the job was not done whose head is its text
pub load_refused : (verb : Verb) (options : OptionValues) (job image input : List ℕ)
    (old new : Option (List ℕ)) (fault : RunFault) → verb ≡ verbs.Load → image ≡ head_of job →
    input ≡ input_of job →
    Serves (PrintsLoaded options image input) (RefusesImage image input) old new (Err fault) →
    JobOutcome verb options job old new (Err fault)
load_refused verb options job image input old new fault is head following served =
    subst (λ (v : Verb). JobOutcome v options job old new (Err fault)) (sym is)
    (renamed Ending Outcome Ran (PrintsLoaded options (head_of job) (input_of job))
    (Answers verbs.Load options job) (Refuses verbs.Load job) old new fault
    (λ outcome text answers. answers)
    (subst (λ (d : List ℕ). Serves (PrintsLoaded options d (input_of job))
    (RefusesImage d (input_of job)) old new (Err fault)) head
    (subst (λ (i : List ℕ). Serves (PrintsLoaded options image i) (RefusesImage image i)
    old new (Err fault)) following served)))

-- why a session went wrong is why the job was not done whose head is its deck and its commands
session_ended : (options : OptionValues) (deck input commands : List ℕ)
    (old new : Option (List ℕ)) (fault : RunFault) →
    sessions.ServesSession {Outcome = Unit {0}} options deck input commands old new (Err fault) →
    sessions.ServesSession {Outcome = Outcome} options deck input commands old new (Err fault)
session_ended options deck input commands old new (TooLong Deck) served = served
session_ended options deck input commands old new (TooLong Image) served = served
session_ended options deck input commands old new (TooLong Input) served = served
session_ended options deck input commands old new (TooLong Commands) served = served
session_ended options deck input commands old new (TooLong Job) served = served
session_ended options deck input commands old new (Asm asm) served = served
session_ended options deck input commands old new (Load load) served = absurd served.out
session_ended options deck input commands old new (Read part) served = served
session_ended options deck input commands old new (Write n) served = record {
  fits = served.fits;
  input_fits = served.input_fits;
  commands_fit = served.commands_fit;
  assembly = served.assembly;
  spelled = served.spelled;
  out = served.out;
  by_steps = served.by_steps;
}
session_ended options deck input commands old new NoMemory (inl none) = inl none
session_ended options deck input commands old new NoMemory (inr served) = inr (record {
  fits = served.fits;
  input_fits = served.input_fits;
  commands_fit = served.commands_fit;
  assembly = served.assembly;
  spelled = served.spelled;
  out = served.out;
  by_steps = served.by_steps;
})

pub debug_refused : (verb : Verb) (options : OptionValues) (job deck input commands : List ℕ)
    (old new : Option (List ℕ)) (fault : RunFault) → verb ≡ verbs.Debug →
    deck ≡ deck_of (head_of job) → input ≡ input_of job → commands ≡ commands_of (head_of job) →
    sessions.ServesSession {Outcome = Unit {0}} options deck input commands old new (Err fault) →
    JobOutcome verb options job old new (Err fault)
debug_refused verb options job deck input commands old new fault is head following asked served =
    subst (λ (v : Verb). JobOutcome v options job old new (Err fault)) (sym is)
    (subst (λ (d : List ℕ). sessions.ServesSession {Outcome = Outcome} options d (input_of job)
    (commands_of (head_of job)) old new (Err fault)) head
    (subst (λ (i : List ℕ). sessions.ServesSession {Outcome = Outcome} options deck i
    (commands_of (head_of job)) old new (Err fault)) following
    (subst (λ (l : List ℕ). sessions.ServesSession {Outcome = Outcome} options deck input l
    old new (Err fault)) asked
    (session_ended options deck input commands old new fault served))))

-- a job that was read whole reports no trouble of its reader
pub unreported_job : (verb : Verb) (options : OptionValues) (job : List ℕ) (part : Part)
    (old new : Option (List ℕ)) (result : Result Outcome RunFault) →
    JobOutcome verb options job old new result → reported_by (reports_read part) result ≡ false
unreported_job verbs.Asm options job part old new result served =
    unreported_reader (Answers verbs.Asm options job) (Refuses verbs.Asm job) part old new result
    (λ _ refused. refused) served
unreported_job verbs.List options job part old new result served =
    unreported_reader (Answers verbs.List options job) (Refuses verbs.List job) part old new result
    (λ _ refused. refused) served
unreported_job (verbs.Check shown) options job part old new result served =
    unreported_reader (Answers (verbs.Check shown) options job) (Refuses (verbs.Check shown) job) part
    old new result
    (λ _ refused. refused) served
unreported_job verbs.Run options job part old new result served =
    unreported_reader (Answers verbs.Run options job) (Refuses verbs.Run job) part old new result
    (λ _ refused. refused) served
unreported_job verbs.Explain options job part old new result served =
    unreported_reader (Answers verbs.Explain options job) (Refuses verbs.Explain job) part old new
    result (λ _ refused. refused) served
unreported_job verbs.Load options job part old new result served =
    unreported_reader (Answers verbs.Load options job) (Refuses verbs.Load job) part old new result
    (λ _ refused. refused) served
unreported_job verbs.Renew options job part old new result served =
    unreported_reader (Answers verbs.Renew options job) (Refuses verbs.Renew job) part old new result
    (λ _ refused. refused) served
unreported_job verbs.Debug options job part old new (Ok _) served = refl
unreported_job verbs.Debug options job part old new (Err fault) served =
    unreported_debugger_state options (deck_of (head_of job)) (input_of job) (commands_of (head_of job)) part
    old new (Err fault) served

-- the reader of a job that was read whole
pub retries_read : (verb : Verb) (options : OptionValues) (job : List ℕ)
    (taken taken' : Option (List ℕ)) (result : Result Outcome RunFault) (old new : Health)
    (start left : ℕ) → start ≡ most_retries →
    RetriesAccountedWith (device_use old new false ∷ []) start left →
    JobOutcome verb options job taken taken' result →
    RetriesAccounted (reader_use Job old new result ∷ [])
retries_read verb options job taken taken' result old new start left is retries served =
    subst (λ (b : Bool). RetriesAccounted (device_use old new b ∷ []))
    (sym (unreported_job verb options job Job taken taken' result served))
    (retries_alone (device_use old new false ∷ []) start left is retries)
