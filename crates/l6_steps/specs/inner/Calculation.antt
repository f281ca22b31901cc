-- What is stored of what is calculated.
use Rattle.std.specs.Prelude.{ℕ, ◌%◌, ◌^◌, Result, Ok, Err}
use Rattle.l6_steps.specs.declared.trap.Trap.{Trap}

-- as many of the lowest bits of the number, or the trap
abbrev pub lowest_bits : ℕ → Result ℕ Trap → Result ℕ Trap
lowest_bits width (Ok number) = Ok (number % 2 ^ width)
lowest_bits width (Err trap) = Err trap
