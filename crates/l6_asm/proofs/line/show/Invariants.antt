use Rattle.std.proofs.Common.{◌≡◌, ◌++◌, map, take, drop}
use Rattle.l6_asm.specs.Listing.{shown}
use Rattle.l6_asm.proofs.line.show.Given as goal

-- the columns so far are what they show, and the others are as they were
abbrev pub invariant-loop-column : goal.invariant-loop-column
invariant-loop-column l =
    l.column-items
    ≡ map shown (take l.column-index l.fn.columns) ++ drop l.column-index l.fn.columns
