-- Labels that get another name.
use Rattle.std.specs.Prelude.{◌≡◌, ℕ, List, true, Option, Some, None, option_and_then}
use Rattle.serde_json.specs.Data.{Data}
use Rattle.l6_place.specs.declared.spot.Spot.{Spot}
use Rattle.l6_group.specs.Label.{label_of}
use Rattle.l6_group.specs.declared.label.Label.{Label}
use Rattle.l6_asm.specs.Assembled.{Assembled}
use Rattle.l6_asm.specs.Labels.{number_of}
use Rattle.l6_asm.specs.Spells.{SpellsJust}
use Rattle.l6_lsp.specs.Document.{deck_of}
use Rattle.l6_lsp.specs.Edits.{edited, are_apart, edits_value}

-- among other labels the name stands for the statement for which the label stood, and the label for none
pub record IsRelabelled (labels others : List (Label × ℕ)) (label name : Label) : Type 0 where
  pub number : ℕ
  pub named : number_of labels label ≡ Some number
  pub named_too : number_of others name ≡ Some number
  pub gone : number_of others label ≡ None

-- another deck spells the same program, in which a label has this name
pub record IsRenamed (deck other : List ℕ) (label name : Label) : Type 0 where
  pub one : Assembled
  pub two : Assembled
  pub spells : SpellsJust deck one
  pub spells_too : SpellsJust other two
  pub same : two.program ≡ one.program
  pub relabelled : IsRelabelled one.labels two.labels label name

-- the value has edits of a document, apart from each other, and with them the deck in its text spells the same
-- program as before, in which a label has the name that is wanted
pub record IsRenaming (uri text : List ℕ) (wanted : Option (List ℕ)) (value : Data) : Type 0 where
  pub label : Label
  pub name : Label
  pub is_wanted : option_and_then label_of wanted ≡ Some name
  pub ranges : List (Spot × Spot)
  pub written : List ℕ
  pub apart : are_apart ranges ≡ true
  pub is : value ≡ edits_value uri ranges written
  pub renamed : IsRenamed (deck_of text) (deck_of (edited text ranges written)) label name
