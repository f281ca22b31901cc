-- The limits of frames.
use Rattle.std.specs.Prelude.{ℕ}

-- how many bytes the body of a frame may have
abbrev pub most_body : ℕ
most_body = 16777216

-- how many bytes may stand before the body of a frame
abbrev pub most_head : ℕ
most_head = 4096
