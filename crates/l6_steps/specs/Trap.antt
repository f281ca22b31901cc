-- The numbers and names of traps.
use Rattle.std.specs.Prelude.{ℕ, List, codes}
use Rattle.l6_steps.specs.declared.trap.Trap.{Trap}
use Rattle.l6_steps.specs.declared.trap.Trap.TheVariants.{UndefinedField, NotABlock, WordOutsideBlock, BadDefinition, ZeroDivisor, BadSize, StoreFull, InputEnded, PushdownEmpty, PushdownFull, ReturnsFull, NoFailExit, BadCount, OutputFull}

-- the number of a trap
abbrev pub trap_number : Trap → ℕ
trap_number UndefinedField = 1
trap_number NotABlock = 2
trap_number WordOutsideBlock = 3
trap_number BadDefinition = 4
trap_number ZeroDivisor = 5
trap_number BadSize = 6
trap_number StoreFull = 7
trap_number InputEnded = 8
trap_number PushdownEmpty = 9
trap_number PushdownFull = 10
trap_number ReturnsFull = 11
trap_number NoFailExit = 12
trap_number BadCount = 13
trap_number OutputFull = 14

-- the name of a trap, as it is printed
abbrev pub trap_name : Trap → List ℕ
trap_name UndefinedField = codes "UNDEFINED FIELD"
trap_name NotABlock = codes "NOT A BLOCK"
trap_name WordOutsideBlock = codes "WORD OUTSIDE BLOCK"
trap_name BadDefinition = codes "BAD DEFINITION"
trap_name ZeroDivisor = codes "ZERO DIVISOR"
trap_name BadSize = codes "BAD SIZE"
trap_name StoreFull = codes "STORE FULL"
trap_name InputEnded = codes "INPUT ENDED"
trap_name PushdownEmpty = codes "PUSHDOWN EMPTY"
trap_name PushdownFull = codes "PUSHDOWN FULL"
trap_name ReturnsFull = codes "RETURNS FULL"
trap_name NoFailExit = codes "NO FAIL EXIT"
trap_name BadCount = codes "BAD COUNT"
trap_name OutputFull = codes "OUTPUT FULL"
