-- Edits of a text by which a name stands in other places.
use Rattle.std.specs.Prelude.{ℕ, ◌==◌, ◌&&◌, ◌||◌, nat_lt, nat_le, Bool, true, List, [], ◌∷◌, map, codes}
use Rattle.serde_json.specs.Data.{Data, string, array, object, member, no_members}
use Rattle.serde_json.specs.View.{items_of}
use Rattle.l6_place.specs.declared.spot.Spot.{Spot}
use Rattle.l6_place.specs.Spot.{changed}
use Rattle.l6_lsp.specs.Ranges.{range_value}

-- the text in which a name stands in place of what each of these ranges has, one range after another
abbrev pub edited : List ℕ → List (Spot × Spot) → List ℕ → List ℕ
edited text [] name = text
edited text (range ∷ ranges) name = edited (changed text range.0 range.1 name) ranges name

-- a place is not after another
abbrev pub is_up_to : Spot → Spot → Bool
is_up_to one other =
    nat_lt one.line other.line || (one.line == other.line && nat_le one.character other.character)

-- ranges are before a place, each before the one in front of it, so that no edit moves what a later one is about
abbrev pub are_before : Spot → List (Spot × Spot) → Bool
are_before limit [] = true
are_before limit (range ∷ ranges) =
    is_up_to range.0 range.1 && (is_up_to range.1 limit && are_before range.0 ranges)

abbrev pub are_apart : List (Spot × Spot) → Bool
are_apart [] = true
are_apart (range ∷ ranges) = are_before range.1 (range ∷ ranges)

-- the value of an edit: where this name stands then
abbrev pub edit_value : Spot → Spot → List ℕ → Data
edit_value start end name = object
    (member (codes "newText") (string name)
    (member (codes "range") (range_value start end) no_members))

-- the value of the changes of a document that has these edits
abbrev pub changes_value : List ℕ → Data → Data
changes_value uri edits = object (member (codes "changes") (object (member uri edits no_members)) no_members)

-- the value of the edits of a document, in this order
abbrev pub edits_value : List ℕ → List (Spot × Spot) → List ℕ → Data
edits_value uri ranges name =
    changes_value uri (array (items_of (map (λ range. edit_value range.0 range.1 name) ranges)))
