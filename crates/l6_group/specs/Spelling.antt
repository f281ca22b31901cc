-- Tables of what spellings mean, and readings of elements one after another.
use Rattle.std.specs.Prelude.{ℕ, List, [], ◌∷◌, codes, Option, Some, None, if◌then◌else◌}
use Rattle.std.specs.Option.{option_and_then}
use Rattle.std.specs.Str.{bytes_eq}
use Prim.Native.String.{String}

-- a line of a table: a spelling, and what it means
pub record Line (Meaning : Type 0) : Type 0 where
  pub spelling : String
  pub meaning : Meaning

infixl 90 ◌means◌
abbrev pub ◌means◌ : {Meaning : Type 0} → String → Meaning → Line Meaning
s means m = record { spelling = s; meaning = m }

-- what characters mean by a table
abbrev pub find_spelled : {Meaning : Type 0} → List (Line Meaning) → List ℕ → Option Meaning
find_spelled [] characters = None
find_spelled (line ∷ lines) characters =
    if bytes_eq (codes line.spelling) characters then Some line.meaning
    else find_spelled lines characters

-- the first reading, and then the second with what the first gave; without either there is none
infixl 10 ◌>>=◌
abbrev pub ◌>>=◌ : {A B : Type 0} → Option A → (A → Option B) → Option B
first >>= second = option_and_then second first
