-- What is known of a device of the host.
use Rattle.l6_device.specs.declared.device.Host.{Host}
use Rattle.l6_device.specs.Device.{Health}

-- the device itself
abbrev pub device_of : {T : Type 0} → Host T → T
device_of host = host.device

-- what it remembers of its troubles
abbrev pub health_of : {T : Type 0} → Host T → Health
health_of host = record { interruptions = host.interruptions; has_failed = host.failed }
