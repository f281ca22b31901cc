-- Which steps of a run got, last wrote and freed a block, by the numbers of the states before them.
use Rattle.std.specs.Prelude.{ℕ, ◌+◌, nat_lt, Bool, true, false, ◌&&◌, not, List, Option, Some, None, is_some, unwrap_or, if◌then◌else◌}
use Rattle.std.specs.FinMap as map
use Rattle.std.specs.Str.{bytes_eq}
use Rattle.l6_store.specs.Rule.{Rule}
use Rattle.l6_steps.specs.Configuration.{state_at}
use Rattle.l6_steps.specs.State.{RunContext}
use Rattle.l6_history.specs.Seeking.{greatest}
use Rattle.l6_history.specs.declared.life.Life.{Life}

-- the words of the block that begins at a place in the state of a number, if one does
abbrev pub block_in : Rule → RunContext → ℕ → ℕ → Option (List ℕ)
block_in rule context place n = map.get (state_at rule context n).memory.blocks place

-- from one state to the next a block is got, or freed, or has other words
abbrev pub is_got : Option (List ℕ) → Option (List ℕ) → Bool
is_got None (Some words) = true
is_got before after = false

abbrev pub is_freed : Option (List ℕ) → Option (List ℕ) → Bool
is_freed (Some words) None = true
is_freed before after = false

abbrev pub is_written : Option (List ℕ) → Option (List ℕ) → Bool
is_written (Some one) (Some other) = not (bytes_eq one other)
is_written before after = false

-- so by the step from the state of a number
abbrev pub is_so_by : (Option (List ℕ) → Option (List ℕ) → Bool) → Rule → RunContext → ℕ → ℕ → Bool
is_so_by is_so rule context place n =
    is_so (block_in rule context place n) (block_in rule context place (n + 1))

-- by which step the block was freed that was the last one at the place, where none is there now
abbrev pub freed_before : Rule → RunContext → ℕ → ℕ → Option ℕ
freed_before rule context place n =
    if is_some (block_in rule context place n) then None
    else greatest n (is_so_by is_freed rule context place)

-- by which step a block was got that is there in the state of a number
abbrev pub got_before : Rule → RunContext → ℕ → ℕ → Option ℕ
got_before rule context place n = greatest n (is_so_by is_got rule context place)

-- by which step it was last written since the one that got it
abbrev pub written_since : Rule → RunContext → ℕ → ℕ → ℕ → Option ℕ
written_since rule context place n got =
    greatest n (λ k. nat_lt got k && is_so_by is_written rule context place k)

abbrev pub written_by : Rule → RunContext → ℕ → ℕ → Option ℕ → Option ℕ
written_by rule context place n None = None
written_by rule context place n (Some got) = written_since rule context place n got

-- the life of a block that is there in the state of a number, and was freed by a step, if it was
abbrev pub life_to : Rule → RunContext → ℕ → ℕ → Option ℕ → Life
life_to rule context place n freed = record {
  got = got_before rule context place n;
  written = written_by rule context place n (got_before rule context place n);
  freed = freed;
}

-- the life of the block that begins at a place in the state of a number, or that was the last to begin there
-- before
abbrev pub life_of : Rule → RunContext → ℕ → ℕ → Life
life_of rule context place n =
    let freed = freed_before rule context place n in
    life_to rule context place (unwrap_or freed n) freed
