-- Operations that always trap, whatever their chains read.
use Rattle.std.specs.Prelude.{ℕ, ◌-◌, ◌==◌, ◌||◌, nat_lt, Bool, true, false, is_some, slice_get, List, Option, Some, None}
use Rattle.std.specs.List.{list_any}
use Rattle.l6_word.specs.Numerals.{unit_size, word_bits}
use Rattle.l6_prog.specs.Statement.{Parts}
use Rattle.l6_prog.specs.declared.operand.Operand.{Operand}
use Rattle.l6_prog.specs.declared.operand.Operand.TheVariants.{Chain, Number}
use Rattle.l6_prog.specs.declared.operation.Op.{Op}
use Rattle.l6_prog.specs.declared.operation.Op.TheVariants.{Define, Divide, Remainder, Get, Input, PrintCharacters}
use Rattle.l6_group.specs.Numerals.{most_text_characters}
use Rattle.l6_check.specs.declared.finding.Finding.{Finding}
use Rattle.l6_check.specs.declared.reason.CertainTrap.{CertainTrap}
use Rattle.l6_check.specs.declared.reason.CertainTrap.TheVariants.{BadDefinition, ZeroDivisor, BadSize, BadCount}
use Rattle.l6_check.specs.declared.reason.Reason.{Reason}
use Rattle.l6_check.specs.declared.reason.Reason.TheVariants.{Warning}
use Rattle.l6_check.specs.declared.reason.WarningReason.TheVariants.{AlwaysTraps, LaterTraps}

-- the operand is a number, and that is above this one; or it is 0
abbrev pub is_above : ℕ → Operand → Bool
is_above most (Number number) = nat_lt most number
is_above most (Chain chain) = false

abbrev pub is_zero : Operand → Bool
is_zero (Number number) = number == 0
is_zero (Chain chain) = false

-- the operand is a number, and that is below this one
abbrev pub is_below : ℕ → Operand → Bool
is_below least (Number number) = nat_lt number least
is_below least (Chain chain) = false

-- both operands are numbers, and the first is greater
abbrev pub is_greater : Operand → Operand → Bool
is_greater (Number first) last = is_below first last
is_greater (Chain chain) last = false

-- this trap, if something is so
abbrev pub trap_if : Bool → CertainTrap → Option CertainTrap
trap_if true trap = Some trap
trap_if false trap = None

-- how an operation always traps: a definition that is out of range or out of order, a division by 0, a
-- get of no words or of more than the largest block has, and a count of no characters or of more than a
-- word holds
abbrev pub certain_trap : {L : Type 0} → Op L → Option CertainTrap
certain_trap (Define field word first last) =
    trap_if
    (is_above (unit_size - 1) word || is_above (word_bits - 1) first || is_above (word_bits - 1) last
    || is_greater first last)
    BadDefinition
certain_trap (Divide chain divisor) = trap_if (is_zero divisor) ZeroDivisor
certain_trap (Remainder chain divisor) = trap_if (is_zero divisor) ZeroDivisor
certain_trap (Get chain size old label) = trap_if (is_zero size || is_above unit_size size) BadSize
certain_trap (Input chain count label) =
    trap_if (is_zero count || is_above most_text_characters count) BadCount
certain_trap (PrintCharacters chain count) =
    trap_if (is_zero count || is_above most_text_characters count) BadCount
certain_trap _ = None

-- the statement has an operation that always traps
abbrev pub has_certain_trap : Option Parts → Bool
has_certain_trap None = false
has_certain_trap (Some statement) =
    list_any (λ operation. is_some (certain_trap operation)) statement.operations

-- so has the one of this number
abbrev pub traps_in : List Parts → ℕ → List ℕ → Bool
traps_in program number line = has_certain_trap (slice_get program number)

-- the card that a finding says to begin such a statement
abbrev pub trapping_said : ℕ → Reason → Option ℕ
trapping_said card (Warning (AlwaysTraps trap)) = Some card
trapping_said card (Warning (LaterTraps trap)) = Some card
trapping_said card other = None

abbrev pub trapping_card : Finding → Option ℕ
trapping_card finding = trapping_said finding.card finding.reason
