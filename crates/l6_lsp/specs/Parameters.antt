-- What the messages of a client say, at the paths that the protocol gives them.
use Rattle.std.specs.Prelude.{ℕ, List, Option, Some, None, codes, option_and_then, unwrap_or}
use Rattle.serde_json.specs.Data.{Data}
use Rattle.serde_json.specs.Find.{get, pointer, as_str, as_number, as_u64}
use Rattle.l6_place.specs.declared.spot.Spot.{Spot}

-- the text at a path
abbrev pub text_at : List ℕ → Data → Option (List ℕ)
text_at path message = option_and_then as_str (pointer path message)

-- the name of the document that a message is about
abbrev pub uri_of : Data → Option (List ℕ)
uri_of message = text_at (codes "/params/textDocument/uri") message

-- the version that a message gives its document, or 0
abbrev pub version_of : Data → ℕ
version_of message =
    unwrap_or (option_and_then as_u64
    (option_and_then as_number (pointer (codes "/params/textDocument/version") message))) 0

-- a number that is a member of a value
abbrev pub number_in : List ℕ → Data → Option ℕ
number_in name value = option_and_then as_u64 (option_and_then as_number (get name value))

-- a place, by its line and by the units before it there
abbrev pub spot_by : Option ℕ → Option ℕ → Option Spot
spot_by (Some line) (Some character) = Some (record { line = line; character = character })
spot_by (Some line) None = None
spot_by None character = None

abbrev pub spot_in : Data → Option Spot
spot_in value = spot_by (number_in (codes "line") value) (number_in (codes "character") value)

-- the two places of a range
abbrev pub range_by : Option Spot → Option Spot → Option (Spot × Spot)
range_by (Some start) (Some end) = Some (start, end)
range_by (Some start) None = None
range_by None end = None

abbrev pub range_in : Data → Option (Spot × Spot)
range_in value =
    range_by (option_and_then spot_in (get (codes "start") value))
    (option_and_then spot_in (get (codes "end") value))

abbrev pub range_at : List ℕ → Data → Option (Spot × Spot)
range_at path message = option_and_then range_in (pointer path message)
