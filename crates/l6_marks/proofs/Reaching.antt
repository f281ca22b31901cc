-- How far marks reach, where some columns were looked at.
use Rattle.std.proofs.Common.{ℕ, ◌+◌, ◌==◌}
use Rattle.std.specs.Prelude.{if◌then◌else◌}

-- the last of the columns that were looked at, or of so many after them
abbrev pub reached : ℕ → ℕ → ℕ → ℕ
reached found place count = if count == 0 then found else place + count
