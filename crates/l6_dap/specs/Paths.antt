-- The paths of files.
use Rattle.std.specs.Prelude.{ℕ, ◌==◌, Bool, not, false, ◌||◌, List, [], ◌∷◌, codes, Option, Some, None, option_and_then, if◌then◌else◌}
use Rattle.std.specs.Str.{byte, bytes_eq}
use Rattle.serde_json.specs.Data.{Data}
use Rattle.serde_json.specs.Find.{get}
use Rattle.l6_dap.specs.Members.{text_in}

-- a byte parts the names of a path, on whatever system: it is a slash of either kind
abbrev pub is_separator : ℕ → Bool
is_separator character = character == byte "/" || character == 92

-- the name of a file: what is behind the last separator of its path
abbrev pub name_after : List ℕ → List ℕ → List ℕ
name_after name [] = name
name_after name (first ∷ others) = name_after (if is_separator first then others else name) others

abbrev pub file_name : List ℕ → List ℕ
file_name path = name_after path path

-- a request is about a file of another name, if it says about which it is
abbrev pub is_of_other : List ℕ → Option (List ℕ) → Bool
is_of_other path None = false
is_of_other path (Some named) = not (bytes_eq (file_name named) (file_name path))

abbrev pub source_in : Option Data → Option (List ℕ)
source_in arguments =
    option_and_then (text_in (codes "path")) (option_and_then (get (codes "source")) arguments)
