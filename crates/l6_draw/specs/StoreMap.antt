-- The map of a store: its blocks and, between them, its free words.
use Rattle.std.specs.Prelude.{ℕ, ◌+◌, ◌-◌, ◌*◌, Bool, true, false, List, [], ◌∷◌, ◌++◌, length, codes, decimal, if◌then◌else◌, nat_lt}
use Rattle.std.specs.List.{flat_map, sum_by}
use Rattle.std.specs.FinMap as places
use Rattle.l6_word.specs.Numerals.{unit_size}
use Rattle.l6_store.specs.Blocks.{block_at, end_of}
use Rattle.l6_steps.specs.State.{Memory}
use Rattle.l6_draw.specs.Reach.{is_reached}

-- how many words the block at a place has
abbrev pub size_at : Memory → ℕ → ℕ
size_at memory place = length (block_at memory.blocks place)

-- a stretch of a store, from its first place on: the words of a block, or words between blocks
pub record Stretch : Type 0 where
  pub from : ℕ
  pub size : ℕ
  pub is_block : Bool

-- the words from a place up to another, and those of the block at a place
abbrev pub words_up_to : ℕ → ℕ → Stretch
words_up_to place end = record { from = place; size = end - place; is_block = false }

abbrev pub block_from : Memory → ℕ → Stretch
block_from memory place =
    record { from = place; size = size_at memory place; is_block = true }

-- the stretches from a place up to the end of the store, where these blocks begin, places rising: the
-- words up to the next block, that block, and what is after it
abbrev pub stretches_from : Memory → ℕ → ℕ → List ℕ → List Stretch
stretches_from memory place end [] = words_up_to place end ∷ []
stretches_from memory place end (start ∷ starts) =
    words_up_to place start
    ∷ (block_from memory start
    ∷ stretches_from memory (start + size_at memory start) end starts)

-- those of a whole store of so many units
abbrev pub stretches : ℕ → Memory → List Stretch
stretches units memory =
    stretches_from memory unit_size (end_of units) (places.keys memory.blocks)

-- the line of free words, if there are any
abbrev pub free_line : ℕ → ℕ → List ℕ
free_line place size =
    if nat_lt 0 size
    then decimal place ++ codes " FREE " ++ decimal size ++ codes "\n"
    else []

-- the line of a block, which is lost where it is not reached
abbrev pub block_line : ℕ → ℕ → Bool → List ℕ
block_line place size reached =
    decimal place ++ codes " BLOCK " ++ decimal size
    ++ (if reached then [] else codes " LOST") ++ codes "\n"

-- the line of a stretch
abbrev pub line_of : Memory → Stretch → List ℕ
line_of memory stretch =
    if stretch.is_block
    then block_line stretch.from stretch.size (is_reached memory stretch.from)
    else free_line stretch.from stretch.size

-- how many words lie in blocks
abbrev pub used : Memory → ℕ
used memory = sum_by (size_at memory) (places.keys memory.blocks)

-- the map of a store of so many units, and how many of its words lie in blocks and how many do not
unfoldable pub store_map : ℕ → Memory → List ℕ
store_map units memory =
    flat_map (line_of memory) (stretches units memory)
    ++ decimal (used memory) ++ codes " WORDS USED "
    ++ decimal (unit_size * units - used memory) ++ codes " FREE\n"
