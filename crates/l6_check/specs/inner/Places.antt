-- The first places of fields.
use Rattle.std.specs.Prelude.{ℕ, List, Option, Some, None, is_some, set, get_or, if◌then◌else◌}
use Rattle.l6_check.specs.declared.field_places.Place.{Place}

-- the places with that of the field of this number, unless it has an earlier one
abbrev pub with_place : List (Option Place) → ℕ → Place → List (Option Place)
with_place places number place =
    if is_some (get_or places number None) then places else set places number (Some place)
