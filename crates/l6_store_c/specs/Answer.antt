-- What C sees of a call.
use Rattle.std.specs.Prelude.{◌≡◌, ℕ, ℤ, pos, negsuc, Option, Some, None, Result, Ok, Err}
use Rattle.l6_store.specs.BuddyStore.{BuddyStore}
use Rattle.l6_store.specs.Store.{Store}
use Rattle.l6_store_c.specs.declared.fault.CallFault.{CallFault}
use Rattle.l6_store_c.specs.declared.fault.CallFault.TheVariants.{Closed, Open, BadUnits, NoMemory, BadLevel, NoBlock, NoWord, BadWord, NotAlike, Full}

-- the number of a fault
abbrev pub code_of : CallFault → ℤ
code_of Closed = negsuc 0
code_of Open = negsuc 1
code_of BadUnits = negsuc 2
code_of NoMemory = negsuc 3
code_of BadLevel = negsuc 4
code_of NoBlock = negsuc 5
code_of NoWord = negsuc 6
code_of BadWord = negsuc 7
code_of NotAlike = negsuc 8
code_of Full = negsuc 9

-- the number of what a call answers
abbrev pub number_of : Result ℕ CallFault → ℤ
number_of (Ok value) = pos value
number_of (Err fault) = code_of fault

-- the number of what a call answers of the store that is held, or of a closed one
abbrev pub answered : Option BuddyStore → (Store → Result ℕ CallFault) → ℤ
answered None outcome = code_of Closed
answered (Some held) outcome = number_of (outcome held.store)

-- the number is that of a fault
abbrev pub IsFault : ℤ → Type 0
IsFault (pos value) = ⊥
IsFault (negsuc below) = Unit {0}

-- a place as a number, where 0 is no place
abbrev pub place_or_0 : Option ℕ → ℕ
place_or_0 (Some place) = place
place_or_0 None = 0

-- this store is held
abbrev pub Holds : Option BuddyStore → Store → Type 0
Holds (Some held) store = held.store ≡ store
Holds None store = ⊥

-- the version of the calls, as a number: 1.1.0
abbrev pub version : ℕ
version = 10100
