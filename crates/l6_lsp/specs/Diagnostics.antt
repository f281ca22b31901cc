-- What is said of the findings of a deck, as an editor shows them.
use Rattle.std.specs.Prelude.{◌≡◌, ◌<◌, ◌≤◌, ℕ, ⊤, List, [], ◌∷◌, length, codes}
use Rattle.serde_json.specs.Data.{Data, number, unsigned, string, array, object, member, no_members}
use Rattle.serde_json.specs.View.{view, items_of}
use Rattle.l6_card.specs.Numerals.{most_deck_bytes}
use Rattle.l6_check.specs.Codes.{code_of}
use Rattle.l6_check.specs.Listed.{AreAllOf, severity_of}
use Rattle.l6_check.specs.declared.finding.Finding.{Finding}
use Rattle.l6_check.specs.declared.finding.Severity.{Severity}
use Rattle.l6_check.specs.declared.finding.Severity.TheVariants.{Error, Warning}
use Rattle.l6_rpc.specs.declared.service.Note.{Note}
use Rattle.l6_lsp.specs.Ranges.{columns_value}

-- the number by which the protocol knows how bad a finding is
abbrev pub severity_number : Severity → ℕ
severity_number Error = 1
severity_number Warning = 2

-- the value of what is said of a finding: of its columns, how bad it is, why, in a word and in words, and where else
-- one has to look
abbrev pub diagnostic_value : Data → ℕ → List ℕ → Data → Data → Data
diagnostic_value range severity code message related = object
    (member (codes "code") (string code)
    (member (codes "message") message
    (member (codes "range") range
    (member (codes "relatedInformation") related
    (member (codes "severity") (number (unsigned severity))
    (member (codes "source") (string (codes "l6")) no_members))))))

-- what is said of a finding of a deck: its columns, how bad it is, and why, in a word; besides a message and further
-- places, of which this says nothing
pub record IsDiagnostic (deck : List ℕ) (finding : Finding) (value : Data) : Type 0 where
  pub message : Data
  pub related : Data
  pub is : value ≡ diagnostic_value (columns_value deck finding.card finding.span.from finding.span.to)
      (severity_number (severity_of finding.reason)) (code_of finding.reason) message related

-- what is said of findings, one after another
abbrev pub AreDiagnostics : List ℕ → List Finding → List Data → Type 0
AreDiagnostics deck [] [] = ⊤
AreDiagnostics deck [] (value ∷ values) = ⊥
AreDiagnostics deck (finding ∷ findings) [] = ⊥
AreDiagnostics deck (finding ∷ findings) (value ∷ values) =
    IsDiagnostic deck finding value × AreDiagnostics deck findings values

-- what is said of a deck: of each of its findings, in order, and of nothing else; or, if it is too long to be read,
-- that alone
pub record IsFound (deck : List ℕ) (values : List Data) : Type 0 where
  pub read : length deck ≤ most_deck_bytes →
      (findings : List Finding) × AreAllOf deck findings × AreDiagnostics deck findings values
  pub unread : most_deck_bytes < length deck → (value : Data) × (values ≡ value ∷ [])

-- what is published of a version of a document
abbrev pub parameters_of : List ℕ → ℕ → Data → Data
parameters_of uri version found = object
    (member (codes "diagnostics") found
    (member (codes "uri") (string uri)
    (member (codes "version") (number (unsigned version)) no_members)))

-- it is said of this version of a document, which has this deck
pub record IsPublished (uri : List ℕ) (version : ℕ) (deck : List ℕ) (note : Note) : Type 0 where
  pub values : List Data
  pub found : IsFound deck values
  pub method : note.method.now ≡ codes "textDocument/publishDiagnostics"
  pub parameters : view note.parameters ≡ parameters_of uri version (array (items_of values))

-- nothing is said of a document any more
pub record IsWithdrawn (uri : List ℕ) (note : Note) : Type 0 where
  pub method : note.method.now ≡ codes "textDocument/publishDiagnostics"
  pub parameters : view note.parameters ≡ object
      (member (codes "diagnostics") (array (items_of []))
      (member (codes "uri") (string uri) no_members))
