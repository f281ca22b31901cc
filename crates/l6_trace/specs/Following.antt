-- A trace that is followed: its calls are done one after another, and answered, until an answer differs
-- from another allocator's.
use Rattle.std.specs.Prelude.{◌≡◌, ℕ, ◌^◌, ◌==◌, ◌&&◌, Bool, true, false, List, [], ◌∷◌, take, slice_get, Option, Some, None, Result, Ok, Err}
use Rattle.l6_trace.specs.Tracing.{Tracing, IsCalled}
use Rattle.l6_trace.specs.declared.call.Answer.{Answer}
use Rattle.l6_trace.specs.declared.call.Answer.TheVariants.{Given, Refused, Freed}
use Rattle.l6_trace.specs.declared.call.Line.{Line}
use Rattle.l6_trace.specs.declared.call.Reply.{Reply}
use Rattle.l6_trace.specs.declared.call.Reply.TheVariants.{At, Nothing, Joined}
use Rattle.l6_trace.specs.declared.fault.TraceFault.{TraceFault}
use Rattle.l6_trace.specs.declared.fault.TraceFault.TheVariants.{Held, NoMemory}
use Rattle.l6_trace.specs.declared.following.Difference.{Difference}

-- a block of a level has this size, or the size is not known
abbrev pub is_size : ℕ → Option ℕ → Bool
is_size level None = true
is_size level (Some size) = size == 2 ^ level

-- another allocator gave this answer, or its answer is not known
abbrev pub agrees : Answer → Option Reply → Bool
agrees answer None = true
agrees (Given place level halved) (Some (At other size)) = place == other && is_size level size
agrees Refused (Some Nothing) = true
agrees (Freed joined) (Some (Joined other)) = joined == other
agrees answer (Some reply) = false

-- the lines lead from one state to another, and each answer on the way agrees
abbrev pub Leads : Tracing → List Line → Tracing → Type 0
Leads first [] last = last ≡ first
Leads first (line ∷ lines) last =
    (answer : Answer) × (next : Tracing) × IsCalled first line.call (Some answer) next
    × (agrees answer line.reply ≡ true) × Leads next lines last

-- the line at an index is the first at which something else comes of the call
pub record Reaches (first : Tracing) (lines : List Line) (index : ℕ) (answer : Option Answer)
    : Type 0 where
  pub before : Tracing
  pub leads : Leads first (take index lines) before
  pub line : Line
  pub is : slice_get lines index ≡ Some line
  pub after : Tracing
  pub called : IsCalled before line.call answer after

-- what became of a trace: all lines agree; or the first that does not is known, with the answer that is
-- another; or the first call that may not be made; or memory ran out
abbrev pub IsFollowed : Tracing → List Line → Result (Option Difference) TraceFault → Type 0
IsFollowed first lines (Ok None) = (last : Tracing) × Leads first lines last
IsFollowed first lines (Ok (Some difference)) =
    (there : Reaches first lines difference.index (Some difference.answer))
    × (agrees difference.answer there.line.reply ≡ false)
IsFollowed first lines (Err (Held number)) =
    (index : ℕ) × (there : Reaches first lines index None) × (there.line.number ≡ number)
IsFollowed first lines (Err NoMemory) = Unit {0}
IsFollowed first lines (Err fault) = ⊥

-- the calls of lines are done one after another, whatever is answered
abbrev pub Replays : Tracing → List Line → Tracing → Type 0
Replays first [] last = last ≡ first
Replays first (line ∷ lines) last =
    (answer : Option Answer) × (next : Tracing) × IsCalled first line.call answer next
    × Replays next lines last
