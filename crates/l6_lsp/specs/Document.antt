-- The texts that an editor has open.
use Rattle.std.specs.Prelude.{ℕ, List, Option, Some, None, codes, option_and_then, if◌then◌else◌}
use Rattle.serde_json.specs.Data.{Data, Items, no_items, item}
use Rattle.serde_json.specs.Find.{get, pointer, as_str, as_array}
use Rattle.l6_place.specs.declared.spot.Spot.{Spot}
use Rattle.l6_place.specs.Spot.{changed}
use Rattle.l6_device.specs.JobParts as parts
use Rattle.l6_lsp.specs.Edits.{is_up_to}
use Rattle.l6_lsp.specs.Parameters.{range_in}

-- the text after a change to these bytes, by its range: all of it where there is none, and the same text where the
-- range is none, or ends before it starts
abbrev pub after_range : List ℕ → List ℕ → Option (Spot × Spot) → List ℕ
after_range text bytes None = text
after_range text bytes (Some range) =
    if is_up_to range.0 range.1 then changed text range.0 range.1 bytes else text

abbrev pub after_text : List ℕ → List ℕ → Option Data → List ℕ
after_text text bytes None = bytes
after_text text bytes (Some range) = after_range text bytes (range_in range)

-- the text after a change: what gives no text is none
abbrev pub after_bytes : List ℕ → Option (List ℕ) → Option Data → List ℕ
after_bytes text None range = text
after_bytes text (Some bytes) range = after_text text bytes range

abbrev pub after_change : List ℕ → Data → List ℕ
after_change text change =
    after_bytes text (option_and_then as_str (get (codes "text") change)) (get (codes "range") change)

-- the text after changes, one after another
abbrev pub after_changes : List ℕ → Items → List ℕ
after_changes text no_items = text
after_changes text (item change changes) = after_changes (after_change text change) changes

abbrev pub after_all : List ℕ → Option Items → List ℕ
after_all text None = text
after_all text (Some changes) = after_changes text changes

-- the changes of a message
abbrev pub changes_of : Data → Option Items
changes_of message = option_and_then as_array (pointer (codes "/params/contentChanges") message)

-- the text after the changes of a message
abbrev pub after_message : List ℕ → Data → List ℕ
after_message text message = after_all text (changes_of message)

-- the deck in a text: what stands before the input and the commands of a job
abbrev pub deck_of : List ℕ → List ℕ
deck_of text = parts.deck_of (parts.head_of text)
