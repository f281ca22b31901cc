-- Rows, read from words. What follows them is handed on.
use Rattle.std.specs.Prelude.{ℕ, ◌+◌, ◌/◌, ◌%◌, ◌^◌, ◌==◌, nat_lt, List, [], ◌∷◌, length, take, drop, Option, Some, None, if◌then◌else◌}
use Rattle.std.specs.List.{flat_map}
use Rattle.std.specs.Option.{option_and_then}
use Rattle.l6_prog.specs.Numerals.{most_characters}
use Rattle.l6_image.specs.Row.{Slot, absent, chain, number, text, Row, row}
use Rattle.l6_image.specs.declared.version.Version.{Version}
use Rattle.l6_image.specs.inner.decode.Fields.{name_if, label_in, items_in, names_in}

-- what a reading makes of what another found, if that found anything
infixl 10 ◌>>=◌
abbrev pub ◌>>=◌ : {A B : Type 0} → Option A → (A → Option B) → Option B
found >>= next = option_and_then next found

-- the first word
abbrev pub first_of : List ℕ → Option (ℕ × List ℕ)
first_of [] = None
first_of (word ∷ words) = Some (word, words)

-- so many codes of words, at most those that a text may have
abbrev pub codes_in : ℕ → List ℕ → List ℕ
codes_in count words = take count (take most_characters (flat_map items_in words))

-- so many codes, and the words after theirs
abbrev pub codes_at : ℕ → List ℕ → Option (Slot × List ℕ)
codes_at count words =
    if nat_lt most_characters count then None
    else if nat_lt (length words) ((count + 5) / 6) then None
    else Some (text (codes_in count (take ((count + 5) / 6) words)), drop ((count + 5) / 6) words)

-- the operand of a kind
unfoldable pub slot_at : ℕ → List ℕ → Option (Slot × List ℕ)
slot_at kind words =
    if kind == 0 then Some (absent, words)
    else if kind == 1 then first_of words >>= (λ first. Some (chain (names_in first.0), first.1))
    else if kind == 2 then first_of words >>= (λ first. Some (number first.0, first.1))
    else first_of words >>= (λ first. codes_at first.0 first.1)

-- a row
unfoldable pub row_at : Version → List ℕ → Option (Row × List ℕ)
row_at version words = do
  head ← first_of words
  first ← slot_at (head.0 / 2 ^ 28 % 4) head.1
  second ← slot_at (head.0 / 2 ^ 26 % 4) first.1
  third ← slot_at (head.0 / 2 ^ 24 % 4) second.1
  Some (
    row (head.0 / 2 ^ 30 % 64) first.0 second.0 third.0
        (name_if (head.0 / 2 ^ 18 % 64)) (label_in version head.0),
    third.1,
  )
