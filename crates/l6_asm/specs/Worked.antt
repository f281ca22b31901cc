-- Worked examples of the definitions, each by hand.
use Rattle.std.specs.Prelude.{codes}
use Rattle.l6_asm.specs.AssemblyFault.{twice_labelled, no_label}
use Rattle.l6_asm.specs.Spells.{IsFault}

-- a label given twice is the fault of its second card, though an earlier card names a label that no
-- card has; small letters are read as capitals
abbrev pub TwiceIsRefused : Type 0
TwiceIsRefused = IsFault (codes "NEXT (PL)\n NO\nnext\n") (twice_labelled 3)

-- a label that no card has is the fault of the card that names it, and not of the statement's first
abbrev pub MissingIsRefused : Type 0
MissingIsRefused = IsFault (codes "LOOP (PL)\n*\n+(NO,DO) LOOP\n") (no_label 3)
