-- Lines of commands, read by hand.
use Rattle.std.specs.Prelude.{◌≡◌, codes}
use Rattle.l6_debug.specs.declared.command.Command.TheVariants.{Step, Go, Break}
use Rattle.l6_debug.specs.declared.command.Reading.TheVariants.{Skipped, Wrong, Quit, Asked}
use Rattle.l6_debug.specs.Command.{reading_of}

-- words are between blanks and tabs, a carriage return at the end is none, and letters are of
-- either case
abbrev pub WordsAreSeparated : Type 0
WordsAreSeparated =
    (reading_of (codes "step 3") ≡ Asked (Step 3))
    × (reading_of (codes "\t Break  007 \r") ≡ Asked (Break 7))
    × (reading_of (codes "gO") ≡ Asked Go)
    × (reading_of (codes "QUIT") ≡ Quit)
    × (reading_of (codes " \t") ≡ Skipped)

-- no other number of words is a command, and no greater number
abbrev pub OthersAreWrong : Type 0
OthersAreWrong =
    (reading_of (codes "hop") ≡ Wrong)
    × (reading_of (codes "step") ≡ Wrong)
    × (reading_of (codes "go 1") ≡ Wrong)
    × (reading_of (codes "quit 1") ≡ Wrong)
    × (reading_of (codes "step 1 2") ≡ Wrong)
    × (reading_of (codes "step 1x") ≡ Wrong)
    × (reading_of (codes "step 1000000000") ≡ Asked (Step 1000000000))
    × (reading_of (codes "step 1000000001") ≡ Wrong)
