-- The laws of the buddy system's rule of choice.
use Rattle.std.specs.Prelude.{ℕ, ◌+◌, ◌*◌, ◌<◌, ◌≤◌}
use Rattle.l6_word.specs.Numerals.{largest_level, unit_size}
use Rattle.l6_store.specs.Blocks.{Fits, IsLive, LiesIn}
use Rattle.l6_store.specs.Rule.{Chooses}
use Rattle.l6_store.specs.Store.{Store, after_free, after_get, fresh, picked}
use Rattle.l6_store.specs.Buddy.{IsListed, buddy_rule}
use Rattle.l6_store.specs.Tiles.{Tiles}

-- the blocks and the free pieces of a store fill it
abbrev pub IsTiled : Store → Type 0
IsTiled store = Tiles store.units store.blocks store.order

-- where they do, the rule's pick answers: a get is refused exactly where no place is open
abbrev pub BuddyChooses : Type 0
BuddyChooses =
    (store : Store) → IsTiled store → Chooses buddy_rule store.units store.blocks store.order

-- those of a new store do, and they still do after a get and after a free
abbrev pub NewStoresAreTiled : Type 0
NewStoresAreTiled = (units : ℕ) → IsTiled (fresh buddy_rule units)

abbrev pub GetsKeepTiles : Type 0
GetsKeepTiles =
    (store : Store) (level : ℕ) → Fits store.units store.blocks → IsTiled store →
    IsTiled (after_get buddy_rule store level (picked buddy_rule store level))

abbrev pub FreesKeepTiles : Type 0
FreesKeepTiles =
    (store : Store) (place : ℕ) → Fits store.units store.blocks → IsTiled store →
    IsLive store.blocks place → IsTiled (after_free buddy_rule store place)

-- where no block is left, each unit is one free piece again
abbrev pub UnitsAreWhole : Type 0
UnitsAreWhole =
    (store : Store) (unit : ℕ) → IsTiled store → ((at : ℕ) → LiesIn store.blocks at → ⊥) →
    unit < store.units → IsListed store.order largest_level (unit_size * unit + unit_size)

-- no get and no free moves more often than there are levels above the lowest
abbrev pub MovesAreFew : Type 0
MovesAreFew =
    (store : Store) (level place : ℕ) → level ≤ largest_level →
    ((after_get buddy_rule store level (picked buddy_rule store level)).moves ≤ largest_level)
    × ((after_free buddy_rule store place).moves ≤ largest_level)
