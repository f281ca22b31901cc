-- The answer to what is asked of a document that is open.
use Rattle.std.proofs.Common.{◌≡◌, ℕ, List, Option, Some, None, Result, Ok, Err, IfOk, subst}
use Rattle.serde_json.specs.Data.{Data}
use Rattle.serde_json.specs.declared.value.Value.{Value}
use Rattle.l6_rpc.specs.declared.refusal.Refusal.{Refusal}
use Rattle.l6_rpc.specs.declared.service.OutOfMemory.{OutOfMemory}
use Rattle.l6_lsp.specs.declared.asked.Asked.{Asked}
use Rattle.l6_lsp.specs.declared.asked.Asked.TheVariants.{Lines, Place}
use Rattle.l6_lsp.specs.declared.asked.LinesAsked.TheVariants.{Fixes}
use Rattle.l6_lsp.specs.declared.asked.PlaceAsked.TheVariants.{Rename}
use Rattle.l6_lsp.specs.declared.decks.Decks.{Decks}
use Rattle.l6_lsp.specs.declared.document.Document.{Document}
use Rattle.l6_lsp.specs.Asked.{asked_by}
use Rattle.l6_lsp.specs.Parameters.{uri_of}
use Rattle.l6_lsp.specs.Decks.{Answers, document_of}
use Rattle.l6_lsp.specs.inner.Answers.{IsAnswer}

-- an answer to one question about a document is that to the same question about the same document
answer_as_asked : (uri other : List ℕ) (document it : Document) (asked wanted : Asked) (outcome : Result Value Refusal)
    (message : Data) (value : Value) → asked ≡ wanted → uri ≡ other → document ≡ it → outcome ≡ Ok value →
    IfOk outcome (IsAnswer asked uri document.text.items message) →
    IsAnswer wanted other it.text.items message value
answer_as_asked uri other document it asked wanted outcome message value by same same_document ok is =
    let first : IsAnswer asked uri document.text.items message value
    = subst (λ (o : Result Value Refusal). IfOk o (IsAnswer asked uri document.text.items message)) ok is in
    let second : IsAnswer wanted uri document.text.items message value
    = subst (λ (a : Asked). IsAnswer a uri document.text.items message value) by first in
    let third : IsAnswer wanted other document.text.items message value
    = subst (λ (u : List ℕ). IsAnswer wanted u document.text.items message value) same second in
    subst (λ (d : Document). IsAnswer wanted other d.text.items message value) same_document third

-- an option has one value
one_value : {A : Type 0} (option : Option A) (one other : A) → option ≡ Some one → option ≡ Some other → one ≡ other
one_value option one other is too = cc

-- and is not none then
no_value : {A : Type 0} {B : Type 0} (option : Option A) (one : A) → option ≡ None → option ≡ Some one → B
no_value option one none is = absurd (cc)

-- what is answered about an open document is an answer
pub opened : (decks : Decks) (method : List ℕ) (message : Data) (uri : List ℕ) (document : Document)
    (asked : Asked) (result : Result (Result Value Refusal) OutOfMemory) → asked_by method ≡ Some asked →
    uri_of message ≡ Some uri → document_of decks uri ≡ Some document →
    IfOk result (λ outcome. IfOk outcome (IsAnswer asked uri document.text.items message)) →
    IfOk result (Answers decks method message)
opened decks method message uri document asked (Ok outcome) by named at is = record {
  unknown = λ none. no_value (asked_by method) asked none by;
  unnamed = λ _ none. no_value (uri_of message) uri none named;
  unopened = λ other _ other_named none.
      no_value (document_of decks uri) document
      (subst (λ (u : List ℕ). document_of decks u ≡ None) (one_value (uri_of message) other uri other_named named) none) at;
  renamed = λ other it value rename other_named other_at ok.
      let same = one_value (uri_of message) uri other named other_named in
      answer_as_asked uri other document it asked (Place Rename) outcome message value
      (one_value (asked_by method) asked (Place Rename) by rename) same
      (one_value (document_of decks other) document it
      (subst (λ (u : List ℕ). document_of decks u ≡ Some document) same at) other_at) ok is;
  mended = λ other it value fixes other_named other_at ok.
      let same = one_value (uri_of message) uri other named other_named in
      answer_as_asked uri other document it asked (Lines Fixes) outcome message value
      (one_value (asked_by method) asked (Lines Fixes) by fixes) same
      (one_value (document_of decks other) document it
      (subst (λ (u : List ℕ). document_of decks u ≡ Some document) same at) other_at) ok is;
}
opened decks method message uri document asked (Err fault) by named at is = tt
