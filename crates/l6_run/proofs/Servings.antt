-- What a writer took of an answer is what the call has served, and that is no trouble of a reader.
use Rattle.std.proofs.Common.{◌≡◌, ◌<◌, ◌≤◌, ℕ, false, List, length, take, Option, Result, Ok, Err, OnOk, IfErr, arith, refl, subst}
use Rattle.std.specs.Io.KnownBytes.{Appends}
use Rattle.l6_device.specs.Numerals.{most_counted}
use Rattle.l6_device.specs.Patience.{reports_read, reported_by}
use Rattle.l6_device.specs.Transfer.{EndsWriting}
use Rattle.l6_device.specs.declared.fault.Part.{Part}
use Rattle.l6_device.specs.declared.fault.RunFault.{RunFault}
use Rattle.l6_device.specs.declared.fault.RunFault.TheVariants.{TooLong, Asm, Load, Read, Write, NoMemory}
use Rattle.l6_run.specs.Serves.{Serves}

-- a call whose answer was cut off by its writer's trouble has served the front of it
pub front_served : (Outcome : Type 0) (Answers : Outcome → List ℕ → Type 0)
    (Refuses : RunFault → Type 0) (outcome : Outcome) (text : List ℕ) (old new : Option (List ℕ))
    (fault : RunFault) → length text ≤ most_counted → Answers outcome text →
    EndsWriting text 0 old new fault → Serves Answers Refuses old new (Err fault)
front_served Outcome Answers Refuses outcome text old new (TooLong _) few answers ends = absurd ends
front_served Outcome Answers Refuses outcome text old new (Asm _) few answers ends = absurd ends
front_served Outcome Answers Refuses outcome text old new (Load _) few answers ends = absurd ends
front_served Outcome Answers Refuses outcome text old new (Read _) few answers ends = absurd ends
front_served Outcome Answers Refuses outcome text old new NoMemory few answers ends = absurd ends
front_served Outcome Answers Refuses outcome text old new (Write n) few answers ends =
    let same : ends.count ≡ n = omega (arith, ends.counted, ends.short, few) in
    record {
      outcome = outcome;
      text = text;
      answers = answers;
      short = subst (λ (k : ℕ). k < length text) same ends.short;
      out = subst (λ (k : ℕ). Appends old new (take k text)) same ends.front;
    }

-- a call that writes a text, and answers as the writing does, has served it
pub text_served : (Answers : Unit {0} → List ℕ → Type 0) (Refuses : RunFault → Type 0)
    (text : List ℕ) (old new : Option (List ℕ)) (result : Result (Unit {0}) RunFault) →
    length text ≤ most_counted → Answers tt text → OnOk result (Appends old new text) →
    IfErr result (EndsWriting text 0 old new) → Serves Answers Refuses old new result
text_served Answers Refuses text old new (Ok _) few answers ok err =
    record { text = text; answers = answers; out = ok }
text_served Answers Refuses text old new (Err fault) few answers ok err =
    front_served (Unit {0}) Answers Refuses tt text old new fault few answers err

-- what serves a text reports no trouble of a reader
pub unreported_reader : {Outcome : Type 0} (Answers : Outcome → List ℕ → Type 0)
    (Refuses : RunFault → Type 0) (part : Part) (old new : Option (List ℕ))
    (result : Result Outcome RunFault) → ((which : Part) → Refuses (Read which) → ⊥) →
    Serves Answers Refuses old new result → reported_by (reports_read part) result ≡ false
unreported_reader Answers Refuses part old new (Ok _) never served = refl
unreported_reader Answers Refuses part old new (Err (TooLong _)) never served = refl
unreported_reader Answers Refuses part old new (Err (Asm _)) never served = refl
unreported_reader Answers Refuses part old new (Err (Load _)) never served = refl
unreported_reader Answers Refuses part old new (Err (Read which)) never served =
    absurd (never which served)
unreported_reader Answers Refuses part old new (Err (Write _)) never served = refl
unreported_reader Answers Refuses part old new (Err NoMemory) never served = refl
