-- Places in a text as editors count them: lines, and on a line units of UTF-16.
use Rattle.std.specs.Prelude.{ℕ, zero, suc, ◌+◌, ◌-◌, ◌&&◌, ◌||◌, ◌==◌, nat_le, nat_lt, Bool, true, false, not, List, [], ◌∷◌, ◌++◌, length, take, drop, max, if◌then◌else◌}
use Rattle.std.specs.Str.{byte}
use Rattle.l6_place.specs.declared.spot.Spot.{Spot}

-- how many units of UTF-16 the character has that a byte of UTF-8 begins: none where it begins no character
abbrev pub units_of : ℕ → ℕ
units_of byte = if nat_lt byte 128 then 1 else (if nat_lt byte 192 then 0 else (if nat_lt byte 240 then 1 else 2))

-- bytes begin with a line feed
abbrev pub begins_with_feed : List ℕ → Bool
begins_with_feed [] = false
begins_with_feed (first ∷ rest) = first == byte "\n"

-- a byte, with those that follow it, is the last one of the end of a line: a line feed, or a carriage
-- return without one
abbrev pub is_last_of_end : ℕ → List ℕ → Bool
is_last_of_end first rest =
    first == byte "\n" || (first == byte "\r" && not (begins_with_feed rest))

-- a text from its line of this number on, counted from 0: nothing where it has too few lines
abbrev pub from_line : ℕ → List ℕ → List ℕ
from_line zero text = text
from_line (suc lines) [] = []
from_line (suc lines) (first ∷ rest) =
    if is_last_of_end first rest then from_line lines rest else from_line (suc lines) rest

-- how many bytes are in front of so many units of a line, with which a text begins: the whole line, where
-- it has fewer
abbrev pub in_front : ℕ → List ℕ → ℕ
in_front units [] = 0
in_front units (first ∷ rest) =
    if first == byte "\n" || first == byte "\r" || (nat_lt 0 (units_of first) && units == 0) then 0
    else suc (in_front (units - units_of first) rest)

-- how many bytes of a text are in front of a place: all of its line, where the place is past that, and all
-- of the text, where it has no such line
abbrev pub offset_of : List ℕ → Spot → ℕ
offset_of text spot =
    let line = from_line spot.line text in
    length text - length line + in_front spot.character line

-- a text in which these bytes stand in place of those between two places
abbrev pub changed : List ℕ → Spot → Spot → List ℕ → List ℕ
changed text start end bytes =
    let from = offset_of text start in
    take from text ++ (bytes ++ drop (max from (offset_of text end)) text)
