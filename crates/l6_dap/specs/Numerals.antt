-- The numbers of debugging in an editor.
use Rattle.std.specs.Prelude.{ℕ}

-- how many blocks are listed at most
abbrev pub most_listed : ℕ
most_listed = 1000
