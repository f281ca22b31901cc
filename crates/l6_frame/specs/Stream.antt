-- Streams of frames, and what is taken of them.
use Rattle.std.specs.Prelude.{◌≡◌, ℕ, List, [], ◌∷◌, ◌++◌}
use Rattle.l6_frame.specs.Frame.{BeginsWith}
use Rattle.l6_frame.specs.declared.inbox.Found.{Found}
use Rattle.l6_frame.specs.declared.inbox.Found.TheVariants.{Message, Part, Wrong}

-- bytes begin with no frame
abbrev pub BeginsNone : List ℕ → Type 0
BeginsNone bytes = (body rest : List ℕ) → ¬ (BeginsWith bytes body rest)

-- of the bytes that wait, this is found: a body is taken, and the bytes after its frame wait; or there is
-- no whole frame yet; or there is none, however the bytes go on
abbrev pub IsFound : List ℕ → List ℕ → List ℕ → Found → Type 0
IsFound old new body Message = BeginsWith old body new
IsFound old new body Part = (new ≡ old) × BeginsNone old
IsFound old new body Wrong = (new ≡ old) × ((more : List ℕ) → BeginsNone (old ++ more))

-- a stream is the frames of these bodies, and then bytes that begin with none
abbrev pub AreFrames : List ℕ → List (List ℕ) → List ℕ → Type 0
AreFrames stream [] rest = (stream ≡ rest) × BeginsNone rest
AreFrames stream (body ∷ bodies) rest =
    (following : List ℕ) × BeginsWith stream body following × AreFrames following bodies rest
