-- What each call that may be refused answers of an open store.
use Rattle.std.specs.Prelude.{ℕ, ◌^◌, ◌<◌, ◌≤◌, ◌==◌, ◌||◌, not, nat_lt, List, length, slice_get, Option, Some, None, Result, Ok, Err, if◌then◌else◌}
use Rattle.std.specs.FinMap as map
use Rattle.std.specs.Option.{ok_or}
use Rattle.l6_word.specs.Numerals.{largest_level, word_bits}
use Rattle.l6_store.specs.Blocks.{Blocks}
use Rattle.l6_store.specs.Buddy.{level_at}
use Rattle.l6_store_c.specs.declared.fault.CallFault.{CallFault}
use Rattle.l6_store_c.specs.declared.fault.CallFault.TheVariants.{BadLevel, NoBlock, NoWord, BadWord, NotAlike}

-- what is answered of a level, if blocks may have it
abbrev pub at_level : ℕ → ℕ → Result ℕ CallFault
at_level level value = if nat_lt largest_level level then Err BadLevel else Ok value

-- whether a block is freed, if it is one
abbrev pub free_outcome : Option (List ℕ) → Result ℕ CallFault
free_outcome None = Err NoBlock
free_outcome (Some words) = Ok 0

-- a level, if there is a block
abbrev pub level_of : Option (List ℕ) → ℕ → Result ℕ CallFault
level_of None level = Err NoBlock
level_of (Some words) level = Ok level

-- the level of the block that begins at a place
abbrev pub live_outcome : Blocks → ℕ → Result ℕ CallFault
live_outcome blocks place = level_of (map.get blocks place) (level_at blocks place)

-- the word of an index in a block, if it is one
abbrev pub read_outcome : Option (List ℕ) → ℕ → Result ℕ CallFault
read_outcome None index = Err NoBlock
read_outcome (Some words) index = ok_or (slice_get words index) NoWord

-- whether a word of an index is written in a block, if it is one
abbrev pub write_outcome : Option (List ℕ) → ℕ → ℕ → Result ℕ CallFault
write_outcome None index value = Err NoBlock
write_outcome (Some words) index value =
    if nat_lt index (length words)
    then (if nat_lt value (2 ^ word_bits) then Ok 0 else Err BadWord) else Err NoWord

-- whether the words of one block, at a place, are copied into another
abbrev pub copy_outcome : ℕ → Option (List ℕ) → ℕ → Option (List ℕ) → Result ℕ CallFault
copy_outcome from None to target = Err NoBlock
copy_outcome from (Some words) to None = Err NoBlock
copy_outcome from (Some words) to (Some others) =
    if from == to || not (length words == length others) then Err NotAlike else Ok 0

-- the least level whose blocks have at least so many words
pub record IsLeastLevel (words level : ℕ) : Type 0 where
  pub small : level ≤ largest_level
  pub enough : words ≤ 2 ^ level
  pub least : (lower : ℕ) → lower < level → 2 ^ lower < words
