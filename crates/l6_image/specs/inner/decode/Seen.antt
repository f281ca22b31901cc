-- What the code's readers answer, and what that stands for.
use Rattle.std.specs.Prelude.{◌≡◌, Option, Some, None, Result, Ok, Err}
use Rattle.l6_image.specs.declared.decode.reader.Slot.{Slot as Raw}
use Rattle.l6_image.specs.declared.decode.reader.Slot.TheVariants.{Absent, Chain, Number, Text}
use Rattle.l6_image.specs.declared.fault.ReadFault.{ReadFault}
use Rattle.l6_image.specs.declared.fault.ReadFault.TheVariants.{NotAnImage, NoMemory}
use Rattle.l6_image.specs.Row.{Slot, absent, chain, number, text}
use Rattle.l6_image.specs.inner.decode.Fields.{names_in}
use Rattle.l6_image.specs.inner.decode.Reading.{codes_in}

-- the operand in these words
abbrev pub slot_seen : Raw → Slot
slot_seen Absent = absent
slot_seen (Chain word) = chain (names_in word)
slot_seen (Number n) = number n
slot_seen (Text count words) = text (codes_in count words.now)

-- the answer, seen so, is what is to be found
abbrev pub Finds : {X Y : Type 0} → (X → Y) → Option X → Option Y → Type 0
Finds view (Some x) found = found ≡ Some (view x)
Finds view None found = found ≡ None

-- so it is where memory may have run out
abbrev pub Fails : {Y : Type 0} → ReadFault → Option Y → Type 0
Fails NotAnImage found = found ≡ None
Fails NoMemory found = Unit {0}

abbrev pub Gives : {X Y : Type 0} → (X → Y) → Result X ReadFault → Option Y → Type 0
Gives view (Ok x) found = found ≡ Some (view x)
Gives view (Err fault) found = Fails fault found
