-- The ring of checkpoints.
use Rattle.std.specs.Prelude.{◌≡◌, ℕ, ◌≤◌, ◌⊎◌, List, [], ◌∷◌, ◌++◌, All, length, map, slice_set, Option, Some, None, IfSome}
use Rattle.circular_buffer.specs.Buffer.{Buffer, buffer, keep_last}
use Rattle.l6_steps.specs.State.{RunContext}
use Rattle.l6_history.specs.Numerals.{most_kept}
use Rattle.l6_history.specs.inner.NumberedMachine.{NumberedMachine}

-- the ring, or none where it was refused
abbrev pub Checkpoints : Type 0
Checkpoints = Option (Buffer NumberedMachine)

abbrev pub items_of : Checkpoints → List NumberedMachine
items_of None = []
items_of (Some ring) = ring.items

-- the numbers of the states that are kept
abbrev pub numbers_of : Checkpoints → List ℕ
numbers_of ring = map (λ (v : NumberedMachine). v.number) (items_of ring)

-- all are of the run in one context, and there are not too many
pub record AreCheckpoints (context : RunContext) (ring : Checkpoints) : Type 0 where
  pub same : All (λ (v : NumberedMachine). v.context ≡ context) (items_of ring)
  pub few : length (items_of ring) ≤ most_kept
  pub room : IfSome ring (λ (b : Buffer NumberedMachine). b.capacity ≡ most_kept)

-- a ring with one more, which may take the place of the oldest, or nothing new
abbrev pub with_numbered_machine : Buffer NumberedMachine → NumberedMachine → Buffer NumberedMachine
with_numbered_machine ring numbered_machine =
    buffer (keep_last ring.capacity (ring.items ++ numbered_machine ∷ [])) ring.capacity

abbrev pub MayAdd : Checkpoints → NumberedMachine → Checkpoints → Type 0
MayAdd None numbered_machine new = new ≡ None
MayAdd (Some ring) numbered_machine new =
    (new ≡ Some ring) ⊎ (new ≡ Some (with_numbered_machine ring numbered_machine))

-- a ring in which one takes the place of another, or nothing new
abbrev pub with_other : Buffer NumberedMachine → ℕ → NumberedMachine → Buffer NumberedMachine
with_other ring index numbered_machine =
    buffer (slice_set ring.items index numbered_machine) ring.capacity

abbrev pub MaySwap : Checkpoints → ℕ → NumberedMachine → Checkpoints → Type 0
MaySwap None index numbered_machine new = new ≡ None
MaySwap (Some ring) index numbered_machine new =
    (new ≡ Some ring) ⊎ (new ≡ Some (with_other ring index numbered_machine))
