-- The drawing of a memory: where its bugs lead, and each block that is reached, with where its fields
-- lead.
use Rattle.std.specs.Prelude.{ℕ, ◌+◌, ◌-◌, List, [], ◌∷◌, ◌++◌, length, codes, decimal, Option, Some, None, if◌then◌else◌, nat_lt}
use Rattle.std.specs.List.{enumerate_from, flat_map}
use Rattle.std.specs.Str.{byte}
use Rattle.std.specs.FinMap as places
use Rattle.l6_word.specs.Window.{Window}
use Rattle.l6_store.specs.Blocks.{block_at}
use Rattle.l6_prog.specs.Numerals.{digit_count}
use Rattle.l6_steps.specs.declared.locus.Locus.TheVariants.{Bug}
use Rattle.l6_steps.specs.Locus.{content}
use Rattle.l6_steps.specs.State.{Memory}
use Rattle.l6_draw.specs.Reach.{held_by, letters, reached_places}

-- the digit or the letter of a name
abbrev pub character_of : ℕ → ℕ
character_of name = if nat_lt name digit_count then byte "0" + name else byte "A" + (name - digit_count)

-- the line of an arrow from a name to a number, after so many blanks: none where no block begins there
abbrev pub arrow : Memory → List ℕ → ℕ → ℕ → List ℕ
arrow memory margin name number =
    if places.contains_key memory.blocks number
    then margin ++ character_of name ∷ codes " -> " ++ decimal number ++ codes "\n"
    else []

-- the line of a bug
abbrev pub bug_line : Memory → ℕ → List ℕ
bug_line memory bug = arrow memory [] bug (content memory (Bug bug))

-- the line of a field, by what it holds
abbrev pub held_line : Memory → ℕ → Option ℕ → List ℕ
held_line memory name None = []
held_line memory name (Some number) = arrow memory (codes "  ") name number

-- the line of a field in a block of these words
abbrev pub field_line : Memory → List ℕ → ℕ × Option Window → List ℕ
field_line memory words field = held_line memory field.0 (held_by words field.1)

-- the lines of a block: its place and its size, and its fields, by their names
abbrev pub block_lines : Memory → ℕ → List ℕ
block_lines memory place =
    codes "BLOCK " ++ decimal place ++ codes " SIZE "
    ++ decimal (length (block_at memory.blocks place)) ++ codes "\n"
    ++ flat_map (field_line memory (block_at memory.blocks place))
    (enumerate_from 0 memory.definitions)

-- the drawing: the bugs A to Z, the blocks that are reached, places rising, and how many these are
unfoldable pub drawing : Memory → List ℕ
drawing memory =
    flat_map (bug_line memory) letters ++ flat_map (block_lines memory) (reached_places memory)
    ++ decimal (length (reached_places memory)) ++ codes " BLOCKS\n"
