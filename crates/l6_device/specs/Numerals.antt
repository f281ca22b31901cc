-- The numbers of the language that jobs use.
use Rattle.std.specs.Prelude.{ℕ, ◌-◌, ◌^◌}

-- how many bytes a job may have
abbrev pub most_job_bytes : ℕ
most_job_bytes = 16777216

-- how many bytes the debugger's commands may have
abbrev pub most_command_bytes : ℕ
most_command_bytes = 1048576

-- how many bytes of an answer are counted that went out before its writer failed: a count stops there
abbrev pub most_counted : ℕ
most_counted = 2 ^ 64 - 1

-- how many reads and writes a call retries after interruptions
abbrev pub most_retries : ℕ
most_retries = 1000
