-- Where one stops that goes through a run, forward or back.
use Rattle.std.specs.Prelude.{ℕ, ◌==◌, nat_le, Bool, false, true, not, ◌&&◌, ◌||◌, List, [], ◌∷◌, length, map, replicate, Option, Some, None, Result, Ok, Err, slice_get, slice_index_or, is_none}
use Rattle.std.specs.List.{list_any}
use Rattle.std.specs.Result.{result_ok}
use Rattle.l6_store.specs.Blocks.{block_at}
use Rattle.l6_prog.specs.declared.condition.Test.{Test}
use Rattle.l6_prog.specs.declared.operand.Operand.TheVariants.{Chain}
use Rattle.l6_steps.specs.Condition.{holds}
use Rattle.l6_steps.specs.Locus.{read}
use Rattle.l6_steps.specs.State.{Memory, State}
use Rattle.l6_steps.specs.declared.trap.Trap.{Trap}
use Rattle.l6_history.specs.declared.watched.BlockWord.{BlockWord}
use Rattle.l6_history.specs.declared.watched.Watched.{Watched}
use Rattle.l6_history.specs.declared.watched.Watched.TheVariants.{Chain as WatchedChain, Word as WatchedWord}

-- one stops at the statements that have a breakpoint, where its test holds if it has one; where a watched
-- chain or word reads as another value than in the state from which one comes; at each statement; and where no more
-- calls wait than this, at statements alone if one stops at each
pub record Stop : Type 0 where
  pub breakpoints : List Bool
  pub tests : List (Option Test)
  pub each : Bool
  pub watched : List Watched
  pub depth : Option ℕ

-- one stops nowhere in a program of so many statements
abbrev pub nowhere : ℕ → Stop
nowhere statements = record {
  breakpoints = replicate statements false;
  tests = replicate statements None;
  each = false;
  watched = [];
  depth = None;
}

-- a state is at the condition of a statement
abbrev pub is_at_statement : State → Bool
is_at_statement state = state.at.action == 0

-- it is one that has a breakpoint
abbrev pub is_at_breakpoint : List Bool → State → Bool
is_at_breakpoint breakpoints state =
    is_at_statement state && slice_index_or breakpoints state.at.statement false

-- the test of a breakpoint holds, or meets a trap
abbrev pub passes : Result Bool Trap → Bool
passes (Ok does_hold) = does_hold
passes (Err trap) = true

abbrev pub is_met : Memory → Option Test → Bool
is_met memory None = true
is_met memory (Some test) = passes (holds test memory)

-- the breakpoint of the statement has no test, or one that is met
abbrev pub meets : List (Option Test) → State → Bool
meets tests state = is_met state.memory (slice_index_or tests state.at.statement None)

-- one stops there
abbrev pub breaks_at : Stop → State → Bool
breaks_at stop state = is_at_breakpoint stop.breakpoints state && meets stop.tests state

-- no more calls wait than this
abbrev pub is_shallow : Option ℕ → State → Bool
is_shallow None state = false
is_shallow (Some depth) state = nat_le (length state.memory.returns) depth

-- a state is wanted: one at which no more calls wait than this; or where a statement begins, and then, with
-- such a depth, only if no more calls wait
abbrev pub is_wanted : Bool → Option ℕ → State → Bool
is_wanted false depth state = is_shallow depth state
is_wanted true None state = is_at_statement state
is_wanted true (Some depth) state = is_at_statement state && is_shallow (Some depth) state

-- one stops at the state, wherever one comes from
abbrev pub stops_at : Stop → State → Bool
stops_at stop state = breaks_at stop state || is_wanted stop.each stop.depth state

-- the word of a block that begins at a place, or nothing where none begins or it has no such word
abbrev pub word_of : Memory → BlockWord → Option ℕ
word_of memory at = slice_get (block_at memory.blocks at.place) at.word

-- what a chain reads as, or nothing where it can't be followed; or the word of a block
abbrev pub value_of : Memory → Watched → Option ℕ
value_of memory (WatchedChain chain) = result_ok (read memory (Chain chain))
value_of memory (WatchedWord at) = word_of memory at

-- what each of some chains and words reads as
abbrev pub values_of : List Watched → Memory → List (Option ℕ)
values_of watched memory = map (value_of memory) watched

-- two values differ, or some of two lists do
abbrev pub differs : Option ℕ → Option ℕ → Bool
differs None None = false
differs (Some one) (Some other) = not (one == other)
differs None (Some other) = true
differs (Some one) None = true

abbrev pub some_differ : List (Option ℕ) → List (Option ℕ) → Bool
some_differ [] others = false
some_differ (one ∷ ones) [] = false
some_differ (one ∷ ones) (other ∷ others) = differs one other || some_differ ones others

-- a watched chain or word reads as another value in one state than in the other
abbrev pub changes_between : Stop → State → State → Bool
changes_between stop before after =
    some_differ (values_of stop.watched before.memory) (values_of stop.watched after.memory)

-- there is nothing at which one would stop
abbrev pub stops_nowhere : Stop → Bool
stops_nowhere stop =
    not (list_any (λ breakpoint. breakpoint) stop.breakpoints) && (length stop.watched == 0)
    && (not stop.each && is_none stop.depth)
