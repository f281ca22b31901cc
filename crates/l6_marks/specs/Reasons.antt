-- Why a run has trapped, in words.
use Rattle.std.specs.Prelude.{ℕ, List, ◌++◌, codes}
use Rattle.l6_steps.specs.declared.trap.Trap.{Trap}
use Rattle.l6_steps.specs.declared.trap.Trap.TheVariants.{UndefinedField, NotABlock, WordOutsideBlock, BadDefinition, ZeroDivisor, BadSize, StoreFull, InputEnded, PushdownEmpty, PushdownFull, ReturnsFull, NoFailExit, BadCount, OutputFull}

-- what a trap means
unfoldable pub reason_of : Trap → List ℕ
reason_of UndefinedField = codes "a chain names a field that has no definition"
reason_of NotABlock =
    codes "no block begins where a chain or an operand leads: a link was not set, or the block there was freed"
reason_of WordOutsideBlock =
    codes "the word of a field is past the end of the block to which the chain leads"
reason_of BadDefinition =
    codes "a definition has a word past 1023, a bit past 35, or a first bit after its last"
reason_of ZeroDivisor = codes "a division by 0"
reason_of BadSize = codes "a block of no word, or of more than 1024, was asked for"
reason_of StoreFull =
    codes "no place is open for a block of this size, and the operation has no label for that"
reason_of InputEnded =
    codes "the input has too few characters left, and the operation has no label for that"
reason_of PushdownEmpty = codes "nothing is saved that could be restored"
reason_of PushdownFull = codes "the pushdown has all the entries that it may have"
reason_of ReturnsFull = codes "as many calls wait for their return as may: a recursion without an end?"
reason_of NoFailExit = codes "FAIL returns from a call that has no fail label"
reason_of BadCount = codes "fewer than 1 or more than 6 characters are asked for"
reason_of OutputFull = codes "the output would pass its limit (--output)"

abbrev pub reason_line : Trap → List ℕ
reason_line trap = codes "      because " ++ reason_of trap ++ codes "\n"
