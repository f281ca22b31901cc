-- Which programs take blocks from the store.
use Rattle.std.specs.Prelude.{ℕ, not, Bool, true, false, List}
use Rattle.std.specs.List.{list_all}
use Rattle.l6_prog.specs.Statement.{Parts}
use Rattle.l6_prog.specs.declared.operation.Op.{Op}
use Rattle.l6_prog.specs.declared.operation.Op.TheVariants.{Get, Duplicate}

-- the operations that take a block
abbrev pub takes_block : Op ℕ → Bool
takes_block (Get chain size old label) = true
takes_block (Duplicate chain block label) = true
takes_block operation = false

-- no operation of a statement does
abbrev pub takes_none : Parts → Bool
takes_none statement = list_all (λ operation. not (takes_block operation)) statement.operations

-- nor does one of any statement of a program
abbrev pub takes_no_block : List Parts → Bool
takes_no_block program = list_all takes_none program
