-- What the reading of a part and the writing of a text do to a device, and what a call makes of its parts.
use Rattle.std.specs.Prelude.{Option, ◌≡◌, ◌⊎◌, ℕ, ◌+◌, ◌<◌, ◌≤◌, min, List, length, take, Result, Ok, Err}
use Rattle.std.specs.Io.KnownBytes.{Appends, Consumes, IsAtEnd}
use Rattle.l6_device.specs.Fault.{limit_of}
use Rattle.l6_device.specs.Numerals.{most_counted}
use Rattle.l6_device.specs.declared.fault.Part.{Part}
use Rattle.l6_device.specs.declared.fault.RunFault.{RunFault}
use Rattle.l6_device.specs.declared.fault.RunFault.TheVariants.{TooLong, Read, Write, NoMemory}

-- the reader gave these bytes, which are all that it had left and no more than the part may have
pub record GivesPart (part : Part) (old new : Option (List ℕ)) (bytes : List ℕ) : Type 0 where
  pub given : Consumes old new bytes
  pub whole : IsAtEnd new
  pub within : length bytes ≤ limit_of part

-- the reader gave one byte more than the part may have
pub record GivesTooMuch (part : Part) (old new : Option (List ℕ)) : Type 0 where
  pub bytes : List ℕ
  pub given : Consumes old new bytes
  pub past : length bytes ≡ limit_of part + 1

-- the reader gave at most n bytes
pub record GivesAtMost (n : ℕ) (old new : Option (List ℕ)) : Type 0 where
  pub bytes : List ℕ
  pub given : Consumes old new bytes
  pub within : length bytes ≤ n

-- why a part was not read: more came than it may have, its reader had trouble, or memory ran out
abbrev pub EndsReading : Part → Option (List ℕ) → Option (List ℕ) → RunFault → Type 0
EndsReading part old new (TooLong which) = (which ≡ part) × GivesTooMuch part old new
EndsReading part old new (Read which) = which ≡ part
EndsReading part old new NoMemory = Unit {0}
EndsReading part old new other = ⊥

-- the writer took the first bytes of a text and not all, and n counts them and those before, as far as
-- they are counted
pub record TakesFront (text : List ℕ) (before n : ℕ) (old new : Option (List ℕ)) : Type 0 where
  pub count : ℕ
  pub short : count < length text
  pub front : Appends old new (take count text)
  pub counted : n ≡ min (before + count) most_counted

-- why a text did not go out whole: its writer had trouble
abbrev pub EndsWriting : List ℕ → ℕ → Option (List ℕ) → Option (List ℕ) → RunFault → Type 0
EndsWriting text before old new (Write n) = TakesFront text before n old new
EndsWriting text before old new other = ⊥

-- the call ended since the part was not read whole, and nothing went out
abbrev pub EndsAtPart : {Outcome : Type 0} → Part → Option (List ℕ) → Option (List ℕ) →
    Option (List ℕ) → Option (List ℕ) → Result Outcome RunFault → Type 0
EndsAtPart part old new taken taken' (Ok outcome) = ⊥
EndsAtPart part old new taken taken' (Err fault) = EndsReading part old new fault × (taken' ≡ taken)

-- the reader gave a whole part, of which this became; or the call ended there
abbrev pub Reads : {Outcome : Type 0} → Part → Option (List ℕ) → Option (List ℕ) →
    Option (List ℕ) → Option (List ℕ) → (List ℕ → Type 0) → Result Outcome RunFault → Type 0
Reads part old new taken taken' Becomes result =
    ((bytes : List ℕ) × GivesPart part old new bytes × Becomes bytes)
    ⊎ EndsAtPart part old new taken taken' result

-- the part was not read whole, for more came than it may have or its reader had trouble
abbrev pub IsOfPart : {Outcome : Type 0} → Part → Result Outcome RunFault → Type 0
IsOfPart part (Err (TooLong which)) = which ≡ part
IsOfPart part (Err (Read which)) = which ≡ part
IsOfPart part result = ⊥
