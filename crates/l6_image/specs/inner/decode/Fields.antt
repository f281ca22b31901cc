-- The fields of a word, found again.
use Rattle.std.specs.Prelude.{ℕ, ◌-◌, ◌/◌, ◌%◌, ◌^◌, ◌==◌, List, [], ◌∷◌, Option, Some, None, take_while, if◌then◌else◌}
use Rattle.l6_prog.specs.Chain.{is_name}
use Rattle.l6_image.specs.Version.{magic}
use Rattle.l6_image.specs.declared.version.Version.{Version}
use Rattle.l6_image.specs.declared.version.Version.TheVariants.{One, Two}

-- the target that the last bits of a header give
abbrev pub target_in : ℕ → ℕ
target_in word = word % 2 ^ 16

-- the label that the last bits of a row give, if they give one
abbrev pub label_in : Version → ℕ → Option ℕ
label_in One word = if word / 2 ^ 12 % 2 == 1 then Some (word % 2 ^ 12) else None
label_in Two word = if word % 2 ^ 16 == 0 then None else Some (word % 2 ^ 16 - 1)

-- the version of this magic word
abbrev pub version_of : ℕ → Option Version
version_of word =
    if word == magic One then Some One else if word == magic Two then Some Two else None

-- the name of this number, if it is one
abbrev pub name_if : ℕ → Option ℕ
name_if n = if is_name n then Some n else None

-- the six items of a word
abbrev pub items_in : ℕ → List ℕ
items_in word =
    word / 2 ^ 30 % 64 ∷ word / 2 ^ 24 % 64 ∷ word / 2 ^ 18 % 64 ∷ word / 2 ^ 12 % 64
    ∷ word / 2 ^ 6 % 64 ∷ word % 64 ∷ []

-- the names in a word, up to an item that is none
abbrev pub names_in : ℕ → List ℕ
names_in word = take_while is_name (items_in word)
