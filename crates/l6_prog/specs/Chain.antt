-- Names, and chains of names.
use Rattle.std.specs.Prelude.{ℕ, List, [], ◌∷◌, length, Bool, false, ◌&&◌, nat_le, nat_lt}
use Rattle.std.specs.List.{list_all}
use Rattle.l6_prog.specs.Numerals.{name_count, first_letter, most_names}

-- the number is that of a name
abbrev pub is_name : ℕ → Bool
is_name number = nat_lt number name_count

-- at least one name and not too many, of which the first is a letter
abbrev pub is_chain : List ℕ → Bool
is_chain [] = false
is_chain (bug ∷ fields) =
    nat_le first_letter bug && nat_le (length (bug ∷ fields)) most_names
    && list_all is_name (bug ∷ fields)
