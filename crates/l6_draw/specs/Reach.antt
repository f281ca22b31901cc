-- Which blocks a program can still reach, from its bugs and along its fields.
use Rattle.std.specs.Prelude.{ℕ, zero, suc, ◌-◌, ◌==◌, ◌&&◌, ◌||◌, Bool, false, List, [], ◌∷◌, map, slice_get, Option, Some, None, option_map, ◌↔◌}
use Rattle.std.specs.List.{Contains, filter, filter_map, list_any, range_with_len}
use Rattle.std.specs.List.Sorted.{IsStrictlyIncreasing}
use Rattle.std.specs.FinMap as places
use Rattle.l6_word.specs.Window as windows
use Rattle.l6_store.specs.Blocks.{IsLive, block_at}
use Rattle.l6_prog.specs.Numerals.{first_letter, name_count}
use Rattle.l6_steps.specs.declared.locus.Locus.TheVariants.{Bug}
use Rattle.l6_steps.specs.Locus.{content}
use Rattle.l6_steps.specs.State.{Memory}

-- the letters from one on, and all of them: they name the bugs
unfoldable pub letters_from : ℕ → List ℕ
letters_from letter = range_with_len letter (name_count - letter)

abbrev pub letters : List ℕ
letters = letters_from first_letter

-- what the bugs hold
abbrev pub held_by_bugs : Memory → List ℕ
held_by_bugs memory = map (λ letter. content memory (Bug letter)) letters

-- what a field holds in a block of these words: a number where it is defined and its word lies in
-- the block
abbrev pub held_by : List ℕ → Option windows.Window → Option ℕ
held_by words None = None
held_by words (Some window) = option_map (windows.take window) (slice_get words window.word)

-- what the fields hold in the block at a place
abbrev pub held_in : Memory → ℕ → List ℕ
held_in memory place = filter_map (held_by (block_at memory.blocks place)) memory.definitions

-- a path, its last place first: a bug holds the first place, each further one is in a field of
-- the block before it, and a block begins at each. What is saved on the pushdowns begins no path.
abbrev pub IsPath : Memory → List ℕ → Type 0
IsPath memory [] = ⊥
IsPath memory (place ∷ []) = Contains (held_by_bugs memory) place × IsLive memory.blocks place
IsPath memory (place ∷ (before ∷ older)) =
    Contains (held_in memory before) place × IsLive memory.blocks place
    × IsPath memory (before ∷ older)

-- a place is reached if a path ends there
abbrev pub IsReachable : Memory → ℕ → Type 0
IsReachable memory place = (older : List ℕ) × IsPath memory (place ∷ older)

-- these are the places that are reached, rising and each once
pub record AreReachable (memory : Memory) (reached : List ℕ) : Type 0 where
  pub rising : IsStrictlyIncreasing reached
  pub each : (place : ℕ) → Contains reached place ↔ IsReachable memory place

-- whether a path of at most so many places ends there
abbrev pub is_within : Memory → ℕ → ℕ → Bool
is_within memory zero place = false
is_within memory (suc count) place =
    places.contains_key memory.blocks place
    && (list_any (λ held. held == place) (held_by_bugs memory)
    || list_any
    (λ before. is_within memory count before && list_any (λ held. held == place)
    (held_in memory before))
    (places.keys memory.blocks))

-- whether a place is reached: a path need not visit a block twice
unfoldable pub is_reached : Memory → ℕ → Bool
is_reached memory place = is_within memory (places.len memory.blocks) place

-- the places that are reached, rising
abbrev pub reached_places : Memory → List ℕ
reached_places memory = filter (is_reached memory) (places.keys memory.blocks)
