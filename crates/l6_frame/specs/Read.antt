-- What is found at the front of bytes.
use Rattle.std.specs.Prelude.{◌≡◌, ◌<◌, ℕ, List, ◌++◌, length}
use Rattle.l6_frame.specs.Frame.{BeginsWith, GivesLength, IsOther}
use Rattle.l6_frame.specs.declared.field.Field.{Field}
use Rattle.l6_frame.specs.declared.field.Field.TheVariants.{Length, Other, Malformed}
use Rattle.l6_frame.specs.declared.frame.Next.{Next}
use Rattle.l6_frame.specs.declared.frame.Next.TheVariants.{Frame, Part, Wrong}

-- what a line of a head is
abbrev pub IsField : List ℕ → Field → Type 0
IsField line (Length size) = GivesLength line size
IsField line Other = IsOther line
IsField line Malformed = ¬ (IsOther line) × ((size : ℕ) → ¬ (GivesLength line size))

-- the body of this length is cut off, or there are too few bytes for it
abbrev pub IsBody : List ℕ → ℕ → Next → Type 0
IsBody following size (Frame body rest) = (following ≡ body.now ++ rest.now) × (length body.now ≡ size)
IsBody following size Part = length following < size
IsBody following size Wrong = ⊥

-- what is found at the front of bytes: the frame with which they begin; a part of one, where they begin
-- with none; or what begins no frame, however it goes on
abbrev pub IsNext : List ℕ → Next → Type 0
IsNext bytes (Frame body rest) = BeginsWith bytes body.now rest.now
IsNext bytes Part = (body rest : List ℕ) → ¬ (BeginsWith bytes body rest)
IsNext bytes Wrong = (more body rest : List ℕ) → ¬ (BeginsWith (bytes ++ more) body rest)
