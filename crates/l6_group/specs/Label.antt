-- Labels.
use Rattle.std.specs.Prelude.{ℕ, not, ◌&&◌, ◌||◌, Bool, false, nat_le, codes, Option, Some, None, List, [], ◌∷◌, length, if◌then◌else◌}
use Rattle.std.specs.List.{list_all}
use Rattle.std.specs.Str.{bytes_eq}
use Rattle.l6_group.specs.Numerals.{most_label_characters}
use Rattle.l6_group.specs.Exits.{done_word, fail_word}
use Rattle.l6_group.specs.Character.{is_capital, is_alphanumeric, spelled}

-- the first character is a letter
abbrev pub begins_with_capital : List ℕ → Bool
begins_with_capital [] = false
begins_with_capital (first ∷ rest) = is_capital first

-- the characters spell an exit that is no label
abbrev pub is_plain_exit : List ℕ → Bool
is_plain_exit characters =
    bytes_eq (codes done_word) characters || bytes_eq (codes fail_word) characters

-- the characters are a label: not too many letters and digits, the first a letter; DONE and FAIL
-- are none
abbrev pub is_label : List ℕ → Bool
is_label characters =
    nat_le (length characters) most_label_characters && not (is_plain_exit characters)
    && begins_with_capital characters && list_all is_alphanumeric characters

-- the label of these characters
abbrev pub label_from : List ℕ → Option (List ℕ)
label_from characters = if is_label characters then Some characters else None

-- the label that an element spells
abbrev pub label_of : List ℕ → Option (List ℕ)
label_of element = label_from (spelled element)
