-- What a session shows of blocks and links.
use Rattle.std.specs.Prelude.{ℕ, ◌&&◌, ◌++◌, nat_le, nat_lt, not, Bool, List, [], codes, decimal, Option, Some, None, Result, Ok, Err, if◌then◌else◌}
use Rattle.std.specs.FinMap as places
use Rattle.std.specs.List.{enumerate_from, flat_map}
use Rattle.l6_word.specs.Numerals.{unit_size}
use Rattle.l6_word.specs.Window.{Window}
use Rattle.l6_store.specs.Blocks.{Blocks, block_at, end_of}
use Rattle.l6_prog.specs.Numerals.{first_letter}
use Rattle.l6_prog.specs.declared.operand.Operand.{Operand}
use Rattle.l6_prog.specs.declared.operand.Operand.TheVariants.{Chain, Number}
use Rattle.l6_steps.specs.Locus.{read}
use Rattle.l6_steps.specs.State.{Memory}
use Rattle.l6_steps.specs.declared.trap.Trap.{Trap}
use Rattle.l6_debug.specs.Answer.{block_lines}
use Rattle.l6_draw.specs.Drawing.{drawing}
use Rattle.l6_draw.specs.Reach.{held_by, reached_places}
use Rattle.l6_session.specs.Texts.{chain_line, name_text}

-- what a field shows of a block, if the block has its word
abbrev pub link_text : Blocks → ℕ → List ℕ
link_text blocks shown = if places.contains_key blocks shown then codes " -> BLOCK" else []

abbrev pub shown_line : Blocks → ℕ → Option ℕ → List ℕ
shown_line blocks name None = []
shown_line blocks name (Some shown) =
    codes "  " ++ name_text name ++ codes " = " ++ decimal shown ++ link_text blocks shown ++ codes "\n"

abbrev pub field_line : Blocks → ℕ → ℕ × Option Window → List ℕ
field_line blocks place field =
    shown_line blocks field.0 (held_by (block_at blocks place) field.1)

-- the words of the block at a place, and what the fields that are defined show of it
abbrev pub fields_text : Memory → ℕ → List ℕ
fields_text memory place =
    flat_map (field_line memory.blocks place) (enumerate_from 0 memory.definitions)

abbrev pub block_text : Memory → ℕ → List ℕ
block_text memory place =
    block_lines place (places.get memory.blocks place) ++ fields_text memory place

-- the block to which an operand leads, or why it leads nowhere
abbrev pub led_text : Memory → List ℕ → Result ℕ Trap → List ℕ
led_text memory chain (Ok place) = block_text memory place
led_text memory chain (Err trap) = chain_line memory chain

abbrev pub operand_block_text : Memory → Operand → List ℕ
operand_block_text memory (Number place) = block_text memory place
operand_block_text memory (Chain chain) = led_text memory chain (read memory (Chain chain))

-- a number is a place of the store at which no block begins
abbrev pub is_dangling : ℕ → Blocks → ℕ → Bool
is_dangling units blocks number =
    nat_le unit_size number
    && (nat_lt number (end_of units) && not (places.contains_key blocks number))

abbrev pub no_block_line : ℕ → List ℕ
no_block_line number = codes " -> " ++ decimal number ++ codes " NO BLOCK\n"

-- the line of a bug that leads to no block
abbrev pub bug_line : ℕ → Blocks → ℕ × ℕ → List ℕ
bug_line units blocks bug =
    if is_dangling units blocks bug.1 then name_text bug.0 ++ no_block_line bug.1 else []

-- the line of a field of the block at a place that leads to no block
abbrev pub held_line : ℕ → Blocks → ℕ → ℕ → Option ℕ → List ℕ
held_line units blocks place name None = []
held_line units blocks place name (Some shown) =
    if is_dangling units blocks shown
    then decimal place ++ codes " " ++ name_text name ++ no_block_line shown
    else []

abbrev pub dangling_line : ℕ → Blocks → ℕ → ℕ × Option Window → List ℕ
dangling_line units blocks place field =
    held_line units blocks place field.0 (held_by (block_at blocks place) field.1)

abbrev pub dangling_lines : ℕ → Memory → ℕ → List ℕ
dangling_lines units memory place =
    flat_map (dangling_line units memory.blocks place) (enumerate_from 0 memory.definitions)

-- the drawing, and the links that lead to no block: those of bugs, and those of the blocks that are
-- reached
abbrev pub draw_text : ℕ → Memory → List ℕ
draw_text units memory =
    drawing memory ++ flat_map (bug_line units memory.blocks) (enumerate_from first_letter memory.bugs)
    ++ flat_map (dangling_lines units memory) (reached_places memory)
