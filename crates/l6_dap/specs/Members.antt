-- The members of a value, by their names.
use Rattle.std.specs.Prelude.{ℕ, List, Option, option_and_then}
use Rattle.serde_json.specs.Data.{Data}
use Rattle.serde_json.specs.Find.{get, as_number, as_str, as_u64}

-- a member that is a text
abbrev pub text_in : List ℕ → Data → Option (List ℕ)
text_in name value = option_and_then as_str (get name value)

-- a member that is a number
abbrev pub number_in : List ℕ → Data → Option ℕ
number_in name value = option_and_then as_u64 (option_and_then as_number (get name value))
