-- How the retries of a call are accounted for: which interruptions are retried, and which troubles
-- the answer reports.
use Rattle.std.specs.Prelude.{◌≡◌, ◌⊎◌, ℕ, ◌+◌, ◌-◌, ◌<◌, ◌≤◌, Bool, true, false, ◌||◌, List, [], ◌∷◌, Result, Ok, Err}
use Rattle.l6_device.specs.Device.{Health}
use Rattle.l6_device.specs.Numerals.{most_retries}
use Rattle.l6_device.specs.declared.fault.Part.{Part}
use Rattle.l6_device.specs.declared.fault.Part.TheVariants.{Deck, Image, Input, Commands, Job}
use Rattle.l6_device.specs.declared.fault.RunFault.{RunFault}
use Rattle.l6_device.specs.declared.fault.RunFault.TheVariants.{Read, Write}

-- a device of a call: its health before the call and after it, and whether the answer reports its
-- trouble
pub record DeviceUse : Type 0 where
  pub old : Health
  pub new : Health
  pub is_reported : Bool

abbrev pub device_use : Health → Health → Bool → DeviceUse
device_use old new is_reported = record { old = old; new = new; is_reported = is_reported }

-- two parts are one
abbrev pub same : Part → Part → Bool
same Deck Deck = true
same Image Image = true
same Input Input = true
same Commands Commands = true
same Job Job = true
same part other = false

-- a fault reports trouble of the reader of this part
abbrev pub reports_read : Part → RunFault → Bool
reports_read part (Read which) = same which part
reports_read part other = false

-- a fault reports trouble of the writer
abbrev pub reports_write : RunFault → Bool
reports_write (Write n) = true
reports_write other = false

-- a call's answer reports it: a fault, and no other answer, reports trouble
abbrev pub reported_by : {Outcome : Type 0} → (RunFault → Bool) → Result Outcome RunFault → Bool
reported_by reports (Ok outcome) = false
reported_by reports (Err fault) = reports fault

-- the reader of a part in a call with this answer
abbrev pub reader_use : {Outcome : Type 0} → Part → Health → Health →
    Result Outcome RunFault → DeviceUse
reader_use part old new result = device_use old new (reported_by (reports_read part) result)

-- the writer in a call with this answer
abbrev pub writer_use : {Outcome : Type 0} → Health → Health → Result Outcome RunFault → DeviceUse
writer_use old new result = device_use old new (reported_by reports_write result)

-- how often devices were interrupted in a call, all together
abbrev pub interruptions : List DeviceUse → ℕ
interruptions [] = 0
interruptions (device ∷ devices) =
    (device.new.interruptions - device.old.interruptions) + interruptions devices

-- trouble of one of the devices is reported
abbrev pub is_one_reported : List DeviceUse → Bool
is_one_reported [] = false
is_one_reported (device ∷ devices) = device.is_reported || is_one_reported devices

-- it holds of each device
abbrev pub Each : (DeviceUse → Type 0) → List DeviceUse → Type 0
Each Holds [] = Unit {0}
Each Holds (device ∷ devices) = Holds device × Each Holds devices

-- the device has failed just where that is reported, or where it had failed before
abbrev pub FailedIfReported : DeviceUse → Type 0
FailedIfReported device =
    (device.old.interruptions ≤ device.new.interruptions)
    × (device.new.has_failed ≡ (device.is_reported || device.old.has_failed))

-- the device has not failed in the call
abbrev pub Unfailed : DeviceUse → Type 0
Unfailed device =
    (device.old.interruptions ≤ device.new.interruptions)
    × (device.new.has_failed ≡ device.old.has_failed)

-- the device was interrupted in the call, if the answer reports its trouble
abbrev pub InterruptedIfReported : DeviceUse → Type 0
InterruptedIfReported device =
    device.is_reported ≡ true → device.old.interruptions < device.new.interruptions

-- whatever was interrupted was retried, and each retry took one off what was left: trouble is reported
-- only of a device that has failed
pub record Retries (devices : List DeviceUse) (left left' : ℕ) : Type 0 where
  pub counted : left ≡ left' + interruptions devices
  pub each : Each FailedIfReported devices

-- all that was left was taken, and a device was interrupted once more: this is reported, and none has
-- failed in the call
pub record GivesUp (devices : List DeviceUse) (left left' : ℕ) : Type 0 where
  pub spent : left' ≡ 0
  pub counted : interruptions devices ≡ left + 1
  pub reported : is_one_reported devices ≡ true
  pub each : Each Unfailed devices
  pub interrupted : Each InterruptedIfReported devices

-- what the devices of a call may have done that has so many retries before it, and so many left
-- after it
abbrev pub RetriesAccountedWith : List DeviceUse → ℕ → ℕ → Type 0
RetriesAccountedWith devices left left' = Retries devices left left' ⊎ GivesUp devices left left'

-- the same of a call that begins with all its retries
abbrev pub RetriesAccounted : List DeviceUse → Type 0
RetriesAccounted devices = (left : ℕ) × RetriesAccountedWith devices most_retries left

-- what the reader of a part may have done in a call with this answer that asks no other device
abbrev pub ReaderRetries : {Outcome : Type 0} → Part → Health → Health → ℕ → ℕ →
    Result Outcome RunFault → Type 0
ReaderRetries part old new left left' result =
    RetriesAccountedWith (reader_use part old new result ∷ []) left left'

-- what the writer may have done in a call with this answer that asks no other device
abbrev pub WriterRetries : {Outcome : Type 0} → Health → Health → ℕ → ℕ →
    Result Outcome RunFault → Type 0
WriterRetries old new left left' result =
    RetriesAccountedWith (writer_use old new result ∷ []) left left'
