-- The laws of the plain rule of choice.
use Rattle.std.specs.Prelude.{◌≡◌, ℕ, ◌^◌, ◌<◌, Some}
use Rattle.l6_store.specs.Blocks.{Blocks}
use Rattle.l6_store.specs.Open.{IsOpen}
use Rattle.l6_store.specs.Rule.{Order, Chooses}
use Rattle.l6_store.specs.Scan.{scan_rule}

-- the rule's pick answers for any blocks
abbrev pub ScanChooses : Type 0
ScanChooses = (units : ℕ) (blocks : Blocks) (order : Order) → Chooses scan_rule units blocks order

-- and no place below the one picked is open
abbrev pub ScanPicksTheLowest : Type 0
ScanPicksTheLowest =
    (units : ℕ) (blocks : Blocks) (order : Order) (level place lower : ℕ) →
    scan_rule.pick units blocks order level ≡ Some place → lower < place →
    IsOpen units blocks (2 ^ level) lower → ⊥
