-- What is answered about the decks that an editor has open.
use Rattle.std.specs.Prelude.{◌≡◌, ◌≢◌, ℕ, List, codes, Option, Some, None, Result, Ok, Err, ⊤}
use Rattle.std.specs.HashMap.{get_by_text}
use Rattle.serde_json.specs.Data.{Data}
use Rattle.serde_json.specs.View.{view}
use Rattle.serde_json.specs.declared.value.Value.{Value}
use Rattle.l6_rpc.specs.declared.refusal.Refusal.{Refusal}
use Rattle.l6_rpc.specs.declared.refusal.Refusal.TheVariants.{NoMethod, NoParameters}
use Rattle.l6_rpc.specs.declared.service.Note.{Note}
use Rattle.l6_lsp.specs.declared.decks.Decks.{Decks}
use Rattle.l6_lsp.specs.declared.document.Document.{Document}
use Rattle.l6_lsp.specs.declared.asked.Asked.TheVariants.{Lines, Place}
use Rattle.l6_lsp.specs.declared.asked.LinesAsked.TheVariants.{Fixes}
use Rattle.l6_lsp.specs.declared.asked.PlaceAsked.TheVariants.{Rename}
use Rattle.l6_lsp.specs.Asked.{asked_by}
use Rattle.l6_lsp.specs.Document.{after_message, deck_of}
use Rattle.l6_lsp.specs.Diagnostics.{IsPublished, IsWithdrawn}
use Rattle.l6_lsp.specs.Fixes.{AreFixes}
use Rattle.l6_lsp.specs.Renaming.{IsRenaming}
use Rattle.l6_lsp.specs.Parameters.{text_at, uri_of, version_of}

-- what it says that it can do is not said here
abbrev pub IsAble : Decks → Value → Type 0
IsAble decks value = ⊤

-- the document of a name, if it is open
abbrev pub document_of : Decks → List ℕ → Option Document
document_of decks uri = get_by_text decks.documents uri

-- all documents but one are as they were
abbrev pub KeepsOthers : Decks → Decks → List ℕ → Type 0
KeepsOthers old new uri = (other : List ℕ) → other ≢ uri → document_of new other ≡ document_of old other

-- a document has this version and this text, all others are as they were, and what is found in it is published
pub record IsStored (old : Decks) (uri : List ℕ) (version : ℕ) (text : List ℕ) (sent : Option Note)
    (new : Decks) : Type 0 where
  pub document : Document
  pub is_open : document_of new uri ≡ Some document
  pub version_is : document.version ≡ version
  pub text_is : document.text.items ≡ text
  pub others : KeepsOthers old new uri
  pub it : Note
  pub is : sent ≡ Some it
  pub published : IsPublished uri version (deck_of text) it

-- nothing is done
abbrev pub IsIgnored : Decks → Option Note → Decks → Type 0
IsIgnored old sent new = (sent ≡ None) × (new ≡ old)

-- a document of this name is opened with this text
abbrev pub Opens : Decks → Option (List ℕ) → Option (List ℕ) → ℕ → Option Note → Decks → Type 0
Opens old (Some uri) (Some text) version sent new = IsStored old uri version text sent new
Opens old (Some uri) None version sent new = IsIgnored old sent new
Opens old None text version sent new = IsIgnored old sent new

-- a document is changed by a message, if it is open
abbrev pub ChangesFrom : Decks → List ℕ → Option Document → Data → Option Note → Decks → Type 0
ChangesFrom old uri (Some document) message sent new =
    IsStored old uri (version_of message) (after_message document.text.items message) sent new
ChangesFrom old uri None message sent new = IsIgnored old sent new

abbrev pub Changes : Decks → Option (List ℕ) → Data → Option Note → Decks → Type 0
Changes old (Some uri) message sent new = ChangesFrom old uri (document_of old uri) message sent new
Changes old None message sent new = IsIgnored old sent new

-- a document is closed
pub record IsClosed (old : Decks) (uri : List ℕ) (sent : Option Note) (new : Decks) : Type 0 where
  pub closed : document_of new uri ≡ None
  pub others : KeepsOthers old new uri
  pub it : Note
  pub is : sent ≡ Some it
  pub withdrawn : IsWithdrawn uri it

abbrev pub Closes : Decks → Option (List ℕ) → Option Note → Decks → Type 0
Closes old (Some uri) sent new = IsClosed old uri sent new
Closes old None sent new = IsIgnored old sent new

-- what a notification leads to
pub record Notes (old : Decks) (method : List ℕ) (message : Data) (sent : Option Note) (new : Decks) : Type 0 where
  pub opened : method ≡ codes "textDocument/didOpen" →
      Opens old (uri_of message) (text_at (codes "/params/textDocument/text") message) (version_of message) sent new
  pub changed : method ≡ codes "textDocument/didChange" → Changes old (uri_of message) message sent new
  pub closed : method ≡ codes "textDocument/didClose" → Closes old (uri_of message) sent new
  pub others : method ≢ codes "textDocument/didOpen" → method ≢ codes "textDocument/didChange" →
      method ≢ codes "textDocument/didClose" → IsIgnored old sent new

-- how a request is answered: an unknown method by its error, and likewise one that names no open document; a rename, if
-- it is not refused, by edits that leave the deck's program as it was; and what is offered for findings, by changes with
-- which less is found. Of other answers this says nothing
pub record Answers (decks : Decks) (method : List ℕ) (message : Data) (outcome : Result Value Refusal) :
    Type 0 where
  pub unknown : asked_by method ≡ None → outcome ≡ Err NoMethod
  pub unnamed : asked_by method ≢ None → uri_of message ≡ None → outcome ≡ Err NoParameters
  pub unopened : (uri : List ℕ) → asked_by method ≢ None → uri_of message ≡ Some uri →
      document_of decks uri ≡ None → outcome ≡ Err NoParameters
  pub renamed : (uri : List ℕ) (document : Document) (value : Value) → asked_by method ≡ Some (Place Rename) →
      uri_of message ≡ Some uri → document_of decks uri ≡ Some document → outcome ≡ Ok value →
      IsRenaming uri document.text.items (text_at (codes "/params/newName") message) (view value)
  pub mended : (uri : List ℕ) (document : Document) (value : Value) → asked_by method ≡ Some (Lines Fixes) →
      uri_of message ≡ Some uri → document_of decks uri ≡ Some document → outcome ≡ Ok value →
      AreFixes uri document.text.items (view value)
