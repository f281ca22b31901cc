-- The exit status of a trace.
use Rattle.std.specs.Prelude.{ℕ, Bool, true, false, Result, Ok, Err}
use Rattle.l6_device.specs.declared.fault.RunFault.TheVariants.{TooLong}
use Rattle.l6_trace.specs.declared.fault.TraceFault.TheVariants.{NoMemory}
use Rattle.l6.specs.declared.tracing.TracingFault.{TracingFault}
use Rattle.l6.specs.declared.tracing.TracingFault.TheVariants.{Device, Trace}

-- of a trace whose answers were written, by whether one differs from another allocator's; of one that was
-- refused; and where memory or a device failed
abbrev pub status_of_trace : Result Bool TracingFault → ℕ
status_of_trace (Ok false) = 0
status_of_trace (Ok true) = 1
status_of_trace (Err (Device (TooLong part))) = 4
status_of_trace (Err (Device fault)) = 5
status_of_trace (Err (Trace NoMemory)) = 5
status_of_trace (Err (Trace fault)) = 4
