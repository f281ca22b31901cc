-- What one watches for on the way to where one stops.
use Rattle.std.specs.Prelude.{◌≡◌, ℕ, ◌||◌, Bool, true, false, not, List, [], ◌∷◌, Option, Some, None, is_some, option_map}
use Rattle.std.specs.FinMap as map
use Rattle.std.specs.List.{list_any}
use Rattle.std.specs.Str.{bytes_eq}
use Rattle.l6_prog.specs.Statement.{Parts}
use Rattle.l6_steps.specs.State.{State}
use Rattle.l6_history.specs.Stop.{Stop, differs, some_differ, value_of, values_of}
use Rattle.l6_history.specs.declared.block_watch.Looked.{Looked}
use Rattle.l6_history.specs.declared.block_watch.Looked.TheVariants.{Presence, Words}
use Rattle.l6_history.specs.declared.watched.Watched.{Watched}
use Rattle.l6_history.specs.declared.watched.Watched.TheVariants.{Chain, Word}
use Rattle.l6_history.specs.inner.Changing.{IsTable}
use Rattle.l6_history.specs.inner.Seeking.{Goal}

-- a bug, and what it held where the watch began
pub record BugWatch : Type 0 where
  pub stop : Stop
  pub bug : ℕ
  pub word : ℕ

-- the bug holds another word
abbrev pub bug_changed : BugWatch → State → Bool
bug_changed watch state =
    differs (Some watch.word) (value_of state.memory (Chain (watch.bug ∷ [])))

-- what is watched, by what each read as where the watch began; and a table of the actions that may change
-- that
pub record ChainWatch : Type 0 where
  pub stop : Stop
  pub values : List (Option ℕ)
  pub table : List (List Bool)

-- a chain or a word reads as another value
abbrev pub chains_changed : ChainWatch → State → Bool
chains_changed watch state = some_differ watch.values (values_of watch.stop.watched state.memory)

-- the table is one of this program
abbrev pub IsOf : ChainWatch → List Parts → Type 0
IsOf watch program = IsTable watch.stop.watched program watch.table

-- a watch is made for a stop: breakpoints alone are looked at where nothing else is one's goal
abbrev pub looks_further : Stop → Bool
looks_further stop = stop.each || is_some stop.depth

pub record IsForBreakpoints (stop : Stop) : Type 0 where
  pub none : stop.watched ≡ []
  pub near : looks_further stop ≡ false

-- states where nothing is watched
pub record IsForStates (stop : Stop) : Type 0 where
  pub none : stop.watched ≡ []

-- a bug where it is all that is watched
pub record IsForBug (watch : BugWatch) : Type 0 where
  pub alone : watch.stop.watched ≡ Chain (watch.bug ∷ []) ∷ []

-- chains and words by a table of the program's actions
pub record IsForChains (watch : ChainWatch) (program : List Parts) : Type 0 where
  pub table : IsOf watch program

-- and those alone where one would stop at no state
pub record IsForChanges (watch : ChainWatch) (program : List Parts) : Type 0 where
  pub table : IsOf watch program
  pub nowhere : (list_any (λ breakpoint. breakpoint) watch.stop.breakpoints || looks_further watch.stop)
      ≡ false

-- the block at a place, by what was seen of it where the watch began; and a table of the actions that may
-- change blocks, which are those that may change its first word
pub record BlockWatch : Type 0 where
  pub place : ℕ
  pub by : Looked
  pub seen : Option (List ℕ)
  pub table : List (List Bool)

abbrev pub word_at : ℕ → Watched
word_at place = Word (record { place = place; word = 0 })

-- what is seen of a block: that it is there, or its words, too
abbrev pub seen_by : Looked → Option (List ℕ) → Option (List ℕ)
seen_by Presence block = option_map (λ words. []) block
seen_by Words block = block

-- two blocks are not the same, or one is not there
abbrev pub blocks_differ : Option (List ℕ) → Option (List ℕ) → Bool
blocks_differ None None = false
blocks_differ (Some one) (Some other) = not (bytes_eq one other)
blocks_differ None (Some other) = true
blocks_differ (Some one) None = true

-- what is seen of the block at a place in a state
abbrev pub seen_at : ℕ → Looked → State → Option (List ℕ)
seen_at place by state = seen_by by (map.get state.memory.blocks place)

abbrev pub block_changed : BlockWatch → State → Bool
block_changed watch state = blocks_differ watch.seen (seen_at watch.place watch.by state)

-- one goes to where that is another one
abbrev pub block_goal : ℕ → Looked → Goal
block_goal place by = record {
  at = λ state. false;
  between = λ one other. blocks_differ (seen_at place by one) (seen_at place by other);
}
