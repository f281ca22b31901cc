-- What a piece of memory owns.
use Rattle.std.specs.Prelude.{ℕ, ◌-◌, ◌*◌, List, length}
use base.Fraction.{full_share}
use base.Fml.{Fml, Lft, fsep}
use mir.Syntax.{Ty, ty_array, ty_int, w64}
use Rattle.std.specs.Borrow.{Array}
use denote.Builtin.{u64}
use denote.RawPtr.{Ptr, lies_at, room_for, ◌+ₚ◌}
use denote.Struct.Lending.{lent_at}

-- so many words of 64 bits, 8 bytes each, in a row
abbrev pub row_of : ℕ → Ty
row_of count = ty_array (ty_int w64) count

-- room for the words after the first ones, from so many on
abbrev pub room_following : Ptr → ℕ → ℕ → Fml
room_following start room count = room_for (row_of (room - count)) (start +ₚ (count * 8))

-- these words from its start on, and after them room for as many more as it has room for
abbrev pub words_and_room : Ptr → ℕ → List ℕ → Fml
words_and_room start room words =
    fsep (lies_at (Array u64 (length words)) full_share start words)
    (room_following start room (length words))

-- what a `&` to it may read: the words
abbrev pub words_lent : Ptr → List ℕ → Lft → Fml
words_lent start words κ = lent_at (Array u64 (length words)) start words κ
