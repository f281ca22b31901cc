-- What becomes of a call that answers with a text: the frame of all of them.
use Rattle.std.specs.Prelude.{ℕ, ◌<◌, List, length, take, Option, Result, Ok, Err}
use Rattle.std.specs.Io.KnownBytes.{Appends}
use Rattle.l6_device.specs.declared.fault.RunFault.{RunFault}
use Rattle.l6_device.specs.declared.fault.RunFault.TheVariants.{Write, NoMemory}

-- the text of the answer went out
pub record AnswersWhole {Outcome : Type 0} (Answers : Outcome → List ℕ → Type 0)
    (old new : Option (List ℕ))
    (outcome : Outcome) : Type 0 where
  pub text : List ℕ
  pub answers : Answers outcome text
  pub out : Appends old new text

-- just the first n bytes of the text of the answer went out, and not all of it
pub record AnswersFront {Outcome : Type 0} (Answers : Outcome → List ℕ → Type 0)
    (old new : Option (List ℕ))
    (n : ℕ) : Type 0 where
  pub outcome : Outcome
  pub text : List ℕ
  pub answers : Answers outcome text
  pub short : n < length text
  pub out : Appends old new (take n text)

-- what became of a call, by what its answers are and what refuses it: the bytes that the writer has
-- taken, where they are known, are the old ones before it and the new ones after it
abbrev pub Serves : {Outcome : Type 0} → (Outcome → List ℕ → Type 0) → (RunFault → Type 0) →
    Option (List ℕ) → Option (List ℕ) → Result Outcome RunFault → Type 0
Serves Answers Refuses old new (Ok outcome) = AnswersWhole Answers old new outcome
Serves Answers Refuses old new (Err (Write n)) = AnswersFront Answers old new n
Serves Answers Refuses old new (Err NoMemory) = Unit {0}
Serves Answers Refuses old new (Err fault) = Refuses fault

-- the call was refused before anything was to go out
abbrev pub IsUnwritten : {Outcome : Type 0} → Result Outcome RunFault → Type 0
IsUnwritten (Ok outcome) = ⊥
IsUnwritten (Err (Write n)) = ⊥
IsUnwritten (Err fault) = Unit {0}
