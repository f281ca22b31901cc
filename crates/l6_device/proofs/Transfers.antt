-- Lemmas on the troubles of a device, on what a reader gave, and on what a writer took.
use Rattle.std.proofs.Common.{◌≡◌, ℕ, ◌+◌, ◌-◌, ◌≤◌, List, ◌++◌, length, take, drop, arith, sym, ◌∙◌, ap, subst, Option, length-append, length-drop, take_all}
use Rattle.std.proofs.Math.Seq.{take-add}
use Rattle.std.proofs.lemmas.List.{take-append-le}
use Rattle.std.specs.Io.KnownBytes.{Appends, Consumes}
use Rattle.std.proofs.KnownBytes.{Appends-trans, Consumes-trans}
use Rattle.l6_device.specs.Fault.{limit_of}
use Rattle.l6_device.specs.Transfer.{EndsReading, GivesAtMost, GivesPart}
use Rattle.l6_device.specs.inner.Transfer.{GivesMore, IsReadFault}
use Rattle.l6_device.specs.declared.fault.Part.{Part}
use Rattle.l6_device.specs.declared.fault.RunFault.{RunFault}
use Rattle.l6_device.specs.declared.fault.RunFault.TheVariants.{TooLong, Asm, Load, Read, Write, NoMemory}

-- a fault of one read ends the reading of the part
pub EndsReading_read_fault : (part : Part) (old new : Option (List ℕ)) (fault : RunFault) →
    IsReadFault part fault → EndsReading part old new fault
EndsReading_read_fault part old new (TooLong _) p = absurd p
EndsReading_read_fault part old new (Asm _) p = absurd p
EndsReading_read_fault part old new (Load _) p = absurd p
EndsReading_read_fault part old new (Read _) p = p
EndsReading_read_fault part old new (Write _) p = absurd p
EndsReading_read_fault part old new NoMemory p = tt

-- the reader gave these bytes, and then more
pub Consumes_more : (a b d : Option (List ℕ)) (bytes bytes' : List ℕ) (count : ℕ) →
    Consumes a b bytes → GivesMore b d bytes bytes' count → Consumes a d bytes'
Consumes_more a b d bytes bytes' count before more =
    subst (Consumes a d) (sym more.appended)
    (Consumes-trans a b d bytes more.more before more.given)

-- the reader gave these bytes, and then none
pub GivesPart_at_end : (part : Part) (a b d : Option (List ℕ)) (bytes bytes' : List ℕ) (count : ℕ) →
    length bytes ≤ limit_of part → Consumes a b bytes → GivesMore b d bytes bytes' count →
    count ≡ 0 →
    GivesPart part a d bytes'
GivesPart_at_end part a b d bytes bytes' count few before more none = record {
  given = Consumes_more a b d bytes bytes' count before more;
  whole = more.ended none;
  within = omega (arith, ap length more.appended, length-append bytes more.more, more.counted);
}

-- the reader gave these bytes, and then at most n more
pub GivesAtMost_after : (a b d : Option (List ℕ)) (bytes : List ℕ) (n most : ℕ) →
    length bytes + n ≤ most → Consumes a b bytes → GivesAtMost n b d → GivesAtMost most a d
GivesAtMost_after a b d bytes n most room before more = record {
  bytes = bytes ++ more.bytes;
  given = Consumes-trans a b d bytes more.bytes before more.given;
  within = omega (arith, length-append bytes more.bytes, more.within);
}

-- what was appended is in the front of what was read into
pub appended_front : (old new front rest : List ℕ) (n : ℕ) →
    n ≤ length front → new ≡ old ++ take n (front ++ rest) → new ≡ old ++ take n front
appended_front old new front rest n few is =
    is ∙ ap (λ l. old ++ l) (take-append-le n front rest few)

-- what a write takes of the rest of a text is after what was taken before
pub Appends_rest : (a b d : Option (List ℕ)) (text : List ℕ) (n m : ℕ) →
    Appends a b (take n text) → Appends b d (take m (take (length text - n) (drop n text))) →
    Appends a d (take (n + m) text)
Appends_rest a b d text n m before more =
    let rest : take (length text - n) (drop n text) ≡ drop n text =
    take_all (length text - n) (drop n text) (omega (arith, length-drop n text)) in
    subst (Appends a d) (ap (λ l. take n text ++ take m l) rest ∙ sym (take-add n m text))
    (Appends-trans a b d (take n text) _ before more)
