-- What C sees of a call.
use Rattle.std.specs.Prelude.{◌≡◌, ℕ, ℤ, pos, negsuc, Option, Some, None, Result, Ok, Err}
use Rattle.l6_places.specs.Board.{Board}
use Rattle.l6_offset_c.specs.declared.fault.CallFault.{CallFault}
use Rattle.l6_offset_c.specs.declared.fault.CallFault.TheVariants.{Closed, Open, BadPlaces, NoMemory, BadLevel, NoBlock, NotOpen, Full}

-- the number of a fault
abbrev pub code_of : CallFault → ℤ
code_of Closed = negsuc 0
code_of Open = negsuc 1
code_of BadPlaces = negsuc 2
code_of NoMemory = negsuc 3
code_of BadLevel = negsuc 4
code_of NoBlock = negsuc 5
code_of NotOpen = negsuc 6
code_of Full = negsuc 7

-- the number of what a call answers
abbrev pub number_of : Result ℕ CallFault → ℤ
number_of (Ok value) = pos value
number_of (Err fault) = code_of fault

-- the number of what a call answers of the board that is held, or of a closed store
abbrev pub IsAnswered : Option Board → (Board → Result ℕ CallFault → Type 0) → ℤ → Type 0
IsAnswered None answers number = number ≡ code_of Closed
IsAnswered (Some held) answers number =
    (outcome : Result ℕ CallFault) × answers held outcome × (number ≡ number_of outcome)

-- the number is that of a fault
abbrev pub IsFault : ℤ → Type 0
IsFault (pos value) = ⊥
IsFault (negsuc below) = Unit {0}

-- the version of the calls, as a number: 1.1.0
abbrev pub version : ℕ
version = 10100
