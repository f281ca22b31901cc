-- Which actions may change what a chain or a word reads as.
use Rattle.std.specs.Prelude.{◌≡◌, ℕ, ◌==◌, ◌||◌, Bool, true, false, nat_lt, List, [], ◌∷◌, length, None, Some, slice_index_or}
use Rattle.std.specs.List.{list_any}
use Rattle.l6_prog.specs.Statement.{Parts}
use Rattle.l6_prog.specs.declared.operation.Op.{Op}
use Rattle.l6_prog.specs.declared.operation.Op.TheVariants as op
use Rattle.l6_steps.specs.declared.position.Position.{Position}
use Rattle.l6_steps.specs.Locus.{index_of}
use Rattle.l6_steps.specs.Row.{Action, operation}
use Rattle.l6_steps.specs.Step.{action_at, action_of}
use Rattle.l6_history.specs.declared.watched.Watched.{Watched}
use Rattle.l6_history.specs.declared.watched.Watched.TheVariants.{Chain, Word}

-- a chain leads to fields, beyond its bug
abbrev pub has_fields : List ℕ → Bool
has_fields chain = nat_lt 1 (length chain)

-- a chain begins with this bug
abbrev pub begins_with : ℕ → List ℕ → Bool
begins_with bug [] = true
begins_with bug (first ∷ fields) = index_of first == index_of bug

-- what is watched is read in blocks: by the fields of a chain, or as a word of one
abbrev pub reads_blocks : Watched → Bool
reads_blocks (Chain chain) = has_fields chain
reads_blocks (Word at) = true

-- it is read by fields
abbrev pub reads_fields : Watched → Bool
reads_fields (Chain chain) = has_fields chain
reads_fields (Word at) = false

-- it is read from a bug on
abbrev pub reads_bug : ℕ → Watched → Bool
reads_bug bug (Chain chain) = begins_with bug chain
reads_bug bug (Word at) = false

-- what an assignment to a chain may change is a bug, and what is read from it on, or blocks
abbrev pub changes_by : List ℕ → Watched → Bool
changes_by (bug ∷ []) watched = reads_bug bug watched
changes_by target watched = reads_blocks watched

-- what an operation may change: what it assigns to; and fields, where it defines some, or blocks
-- come and go
abbrev pub changes : Op ℕ → Watched → Bool
changes (op.Set chain operand) watched = changes_by chain watched
changes (op.Add chain operand) watched = changes_by chain watched
changes (op.Subtract chain operand) watched = changes_by chain watched
changes (op.Multiply chain operand) watched = changes_by chain watched
changes (op.Divide chain operand) watched = changes_by chain watched
changes (op.Remainder chain operand) watched = changes_by chain watched
changes (op.And chain operand) watched = changes_by chain watched
changes (op.Or chain operand) watched = changes_by chain watched
changes (op.ExclusiveOr chain operand) watched = changes_by chain watched
changes (op.Complement chain operand) watched = changes_by chain watched
changes (op.ShiftLeft chain operand) watched = changes_by chain watched
changes (op.ShiftRight chain operand) watched = changes_by chain watched
changes (op.Exchange one other) watched = changes_by one watched || changes_by other watched
changes (op.Define field word first last) watched = reads_fields watched
changes (op.RestoreContent chain) watched = changes_by chain watched
changes (op.RestoreDefinition field) watched = reads_fields watched
changes (op.Get chain size None label) watched = reads_blocks watched || changes_by chain watched
changes (op.Get chain size (Some old) label) watched =
    reads_blocks watched || (changes_by chain watched || changes_by old watched)
changes (op.Duplicate chain block label) watched = reads_blocks watched || changes_by chain watched
changes (op.Free chain value) watched = reads_blocks watched || changes_by chain watched
changes (op.Input chain count label) watched = changes_by chain watched
changes other watched = false

-- it may change some of what is watched
abbrev pub changes_some : List Watched → Op ℕ → Bool
changes_some watched op = list_any (changes op) watched

-- an action may: a condition and an exit change none
abbrev pub action_changes : List Watched → Action → Bool
action_changes watched (operation op) = changes_some watched op
action_changes watched action = false

-- each action of a statement of which a row says no changes nothing that is watched; one without an entry
-- may
abbrev pub IsRow : List Watched → Parts → List Bool → Type 0
IsRow watched statement row =
    (number : ℕ) → slice_index_or row number true ≡ false →
    action_changes watched (action_of statement number) ≡ false

-- what a table, which has a row for each statement, says of the action at a position; one without an
-- entry may change some
abbrev pub says : List (List Bool) → Position → Bool
says table at = slice_index_or (slice_index_or table at.statement []) at.action true

-- each action of a program of which a table says no changes nothing that is watched
abbrev pub IsTable : List Watched → List Parts → List (List Bool) → Type 0
IsTable watched program table =
    (at : Position) → says table at ≡ false → action_changes watched (action_at program at) ≡ false
