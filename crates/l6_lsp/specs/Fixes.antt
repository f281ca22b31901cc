-- Changes of a text that are offered for what is found in its deck: only those that mend something.
use Rattle.std.specs.Prelude.{◌≡◌, ℕ, ◌+◌, ◌==◌, ◌&&◌, ◌||◌, nat_lt, Bool, true, List, [], ◌∷◌, All, length, codes}
use Rattle.serde_json.specs.Data.{Data, string, boolean, array, object, member, no_members}
use Rattle.serde_json.specs.View.{items_of}
use Rattle.l6_place.specs.declared.spot.Spot.{Spot}
use Rattle.l6_check.specs.Listed.{AreAllOf, severity_of}
use Rattle.l6_check.specs.declared.finding.Finding.{Finding}
use Rattle.l6_check.specs.declared.finding.Severity.{Severity}
use Rattle.l6_check.specs.declared.finding.Severity.TheVariants.{Error, Warning}
use Rattle.l6_lsp.specs.Document.{deck_of}
use Rattle.l6_lsp.specs.Edits.{edited, edits_value}

-- how many findings are errors
abbrev pub errors_by : Severity → ℕ
errors_by Error = 1
errors_by Warning = 0

abbrev pub errors_in : List Finding → ℕ
errors_in [] = 0
errors_in (finding ∷ findings) = errors_by (severity_of finding.reason) + errors_in findings

-- of fewer errors, or of as many and fewer findings, it is said that they are less
abbrev pub are_less : List Finding → List Finding → Bool
are_less findings others =
    nat_lt (errors_in findings) (errors_in others)
    || (errors_in findings == errors_in others && nat_lt (length findings) (length others))

-- in another deck less is found than in a deck
pub record IsMended (deck other : List ℕ) : Type 0 where
  pub findings : List Finding
  pub others : List Finding
  pub found : AreAllOf deck findings
  pub found_then : AreAllOf other others
  pub less : are_less others findings ≡ true

-- it is so where this text is written between two places of the text that the deck is in
abbrev pub Mends : List ℕ → Spot → Spot → List ℕ → Type 0
Mends text start end written = IsMended (deck_of text) (deck_of (edited text ((start, end) ∷ []) written))

-- the value of a change that is offered
abbrev pub action_value : List ℕ → Data → Data
action_value title edit = object
    (member (codes "edit") edit
    (member (codes "isPreferred") (boolean true)
    (member (codes "kind") (string (codes "quickfix"))
    (member (codes "title") (string title) no_members))))

-- the value offers a change of a document, and with it less is found in the deck in its text
pub record IsFix (uri text : List ℕ) (value : Data) : Type 0 where
  pub title : List ℕ
  pub start : Spot
  pub end : Spot
  pub written : List ℕ
  pub is : value ≡ action_value title (edits_value uri ((start, end) ∷ []) written)
  pub mended : Mends text start end written

-- each of the values in a list does
pub record AreFixes (uri text : List ℕ) (value : Data) : Type 0 where
  pub values : List Data
  pub is : value ≡ array (items_of values)
  pub mend : All (IsFix uri text) values
