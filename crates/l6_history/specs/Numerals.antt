-- The numbers of histories.
use Rattle.std.specs.Prelude.{ℕ}

-- how many checkpoints a history keeps at most, and of how many states one is tried at one
abbrev pub most_kept : ℕ
most_kept = 16

abbrev pub stride : ℕ
stride = 4096

-- how many chains and words may be watched at once
abbrev pub most_watched : ℕ
most_watched = 8
