-- Lemmas on the use of devices, one after another.
use Rattle.std.proofs.Common.{◌≡◌, inl, inr, ℕ, Bool, true, false, List, [], ◌∷◌, Option, arith, refl, sym, ◌∙◌, ap, subst, le_refl}
use Rattle.std.specs.Prelude.{◌||◌}
use Rattle.l6_device.specs.Device.{Health}
use Rattle.l6_device.specs.Numerals.{most_retries}
use Rattle.l6_device.specs.Patience.{DeviceUse, device_use, same, reports_read, reports_write, interruptions, is_one_reported, Each, FailedIfReported, InterruptedIfReported, Unfailed, Retries, RetriesAccounted, RetriesAccountedWith}
use Rattle.l6_device.specs.Transfer.{EndsReading}
use Rattle.l6_device.specs.declared.fault.Part.{Part}
use Rattle.l6_device.specs.declared.fault.RunFault.{RunFault}
use Rattle.l6_device.specs.declared.fault.RunFault.TheVariants.{TooLong, Asm, Load, Read, Write, NoMemory}

-- one of one device is reported
reported_alone : (b : Bool) → (b || false) ≡ true → b ≡ true
reported_alone true is = refl
reported_alone false is = is

-- at the start of a call
pub retried_none : (h : Health) (left : ℕ) → Retries (device_use h h false ∷ []) left left
retried_none h left = record {
  counted = omega arith;
  each = ((le_refl h.interruptions, refl), tt);
}

-- a device that was used twice: trouble is reported of it only the second time
pub retries_then : (old mid new : Health) (is_reported : Bool) (left m left' : ℕ) →
    Retries (device_use old mid false ∷ []) left m →
    RetriesAccountedWith (device_use mid new is_reported ∷ []) m left' →
    RetriesAccountedWith (device_use old new is_reported ∷ []) left left'
retries_then old mid new true left m left' before (inl later) = inl (record {
  counted = omega (arith, before.counted, before.each.0.0, later.counted, later.each.0.0);
  each = ((omega (arith, before.each.0.0, later.each.0.0), later.each.0.1), tt);
})
retries_then old mid new false left m left' before (inl later) = inl (record {
  counted = omega (arith, before.counted, before.each.0.0, later.counted, later.each.0.0);
  each = (
    (omega (arith, before.each.0.0, later.each.0.0), later.each.0.1 ∙ before.each.0.1),
    tt,
  );
})
retries_then old mid new is_reported left m left' before (inr later) = inr (record {
  spent = later.spent;
  counted = omega (arith, before.counted, before.each.0.0, later.counted, later.each.0.0);
  reported = later.reported;
  each = (
    (omega (arith, before.each.0.0, later.each.0.0), later.each.0.1 ∙ before.each.0.1),
    tt,
  );
  interrupted = (λ is. omega (arith, before.each.0.0, later.interrupted.0 is), tt);
})

-- where no trouble was reported, all was retried
pub retried_unreported : (old new : Health) (left left' : ℕ) →
    RetriesAccountedWith (device_use old new false ∷ []) left left' →
    Retries (device_use old new false ∷ []) left left'
retried_unreported old new left left' (inl retried) = retried
retried_unreported old new left left' (inr gave) = absurd (cc (gave.reported))

-- devices that were used after one of which no trouble was reported
pub retries_more : (old new : Health) (is_reported : Bool) (devices : List DeviceUse)
    (left m left' : ℕ) →
    is_reported ≡ false → RetriesAccountedWith (device_use old new false ∷ []) left m →
    RetriesAccountedWith devices m left' →
    RetriesAccountedWith (device_use old new is_reported ∷ devices) left left'
retries_more old new is_reported devices left m left' unreported retries later =
    subst (λ (b : Bool). RetriesAccountedWith (device_use old new b ∷ devices) left left') (sym unreported)
    (after_retried (retried_unreported old new left m retries) later) where
      after_retried : Retries (device_use old new false ∷ []) left m →
          RetriesAccountedWith devices m left' →
          RetriesAccountedWith (device_use old new false ∷ devices) left left'
      after_retried before (inl rest) = inl (record {
        counted = omega (arith, before.counted, rest.counted);
        each = (before.each.0, rest.each);
      })
      after_retried before (inr rest) = inr (record {
        spent = rest.spent;
        counted = omega (arith, before.counted, rest.counted);
        reported = rest.reported;
        each = (before.each.0, rest.each);
        interrupted = ((λ is. absurd (let bad : false ≡ true = is in cc)), rest.interrupted);
      })

-- a device that was not asked
abbrev pub Unasked : DeviceUse → Type 0
Unasked device = (device.new ≡ device.old) × (device.is_reported ≡ false)

-- devices that were not asked were not interrupted, and did not fail
none_interrupted : (devices : List DeviceUse) → Each Unasked devices → interruptions devices ≡ 0
none_interrupted [] unasked = refl
none_interrupted (device ∷ devices) unasked =
    let same : device.new.interruptions ≡ device.old.interruptions =
    ap (λ (h : Health). h.interruptions) unasked.0.0 in
    let rest : interruptions devices ≡ 0 = none_interrupted devices unasked.1 in
    omega (arith, same, rest)

none_failed_by : (devices : List DeviceUse) → Each Unasked devices → Each FailedIfReported devices
none_failed_by [] unasked = tt
none_failed_by (device ∷ devices) unasked =
    let same : device.new.interruptions ≡ device.old.interruptions =
    ap (λ (h : Health). h.interruptions) unasked.0.0 in (
      (
        omega (arith, same),
        ap (λ (h : Health). h.has_failed) unasked.0.0
            ∙ sym (ap (λ (b : Bool). b || device.old.has_failed) unasked.0.1),
      ),
      none_failed_by devices unasked.1,
    )

none_failed : (devices : List DeviceUse) → Each Unasked devices → Each Unfailed devices
none_failed [] unasked = tt
none_failed (device ∷ devices) unasked =
    let same : device.new.interruptions ≡ device.old.interruptions =
    ap (λ (h : Health). h.interruptions) unasked.0.0 in (
      (omega (arith, same), ap (λ (h : Health). h.has_failed) unasked.0.0),
      none_failed devices unasked.1,
    )

none_reported : (devices : List DeviceUse) → Each Unasked devices →
    Each InterruptedIfReported devices
none_reported [] unasked = tt
none_reported (device ∷ devices) unasked = (
  (λ is. absurd (let bad : false ≡ true = sym unasked.0.1 ∙ is in cc)),
  none_reported devices unasked.1,
)

-- devices of which only the first was asked
pub retries_first : (device : DeviceUse) (devices : List DeviceUse) (left left' : ℕ) →
    RetriesAccountedWith (device ∷ []) left left' → Each Unasked devices →
    RetriesAccountedWith (device ∷ devices) left left'
retries_first device devices left left' (inl retried) unasked = inl (record {
  counted = omega (arith, retried.counted, none_interrupted devices unasked);
  each = (retried.each.0, none_failed_by devices unasked);
})
retries_first device devices left left' (inr gave) unasked = inr (record {
  spent = gave.spent;
  counted = omega (arith, gave.counted, none_interrupted devices unasked);
  reported = ap (λ (b : Bool). b || is_one_reported devices)
      (reported_alone device.is_reported gave.reported);
  each = (gave.each.0, none_failed devices unasked);
  interrupted = (gave.interrupted.0, none_reported devices unasked);
})

-- devices of a call that asked none of them
pub retries_unasked : (devices : List DeviceUse) → Each Unasked devices → RetriesAccounted devices
retries_unasked devices unasked = (
  most_retries,
  inl (record {
    counted = omega (arith, none_interrupted devices unasked);
    each = none_failed_by devices unasked;
  }),
)

-- a call that counts its retries for itself
pub retries_alone : (devices : List DeviceUse) (start left : ℕ) → start ≡ most_retries →
    RetriesAccountedWith devices start left → RetriesAccounted devices
retries_alone devices start left is retries =
    (left, subst (λ (n : ℕ). RetriesAccountedWith devices n left) is retries)

-- the reason why a part was not read is no trouble of another part's reader, nor of the writer
pub unreported_other : (part other : Part) (old new : Option (List ℕ)) (fault : RunFault) →
    same part other ≡ false → EndsReading part old new fault → reports_read other fault ≡ false
unreported_other part other old new (TooLong _) apart ends = refl
unreported_other part other old new (Asm _) apart ends = refl
unreported_other part other old new (Load _) apart ends = refl
unreported_other part other old new (Read which) apart ends =
    ap (λ (p : Part). same p other) ends ∙ apart
unreported_other part other old new (Write _) apart ends = refl
unreported_other part other old new NoMemory apart ends = refl

pub unreported_writer : (part : Part) (old new : Option (List ℕ)) (fault : RunFault) →
    EndsReading part old new fault → reports_write fault ≡ false
unreported_writer part old new (TooLong _) ends = refl
unreported_writer part old new (Asm _) ends = refl
unreported_writer part old new (Load _) ends = refl
unreported_writer part old new (Read _) ends = refl
unreported_writer part old new (Write _) ends = absurd ends
unreported_writer part old new NoMemory ends = refl
