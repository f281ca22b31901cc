-- What the value of a body leads to is what the body does.
use Rattle.std.proofs.Common.{◌≡◌, ℕ, List, Option, Some, Result, sym, ◌∙◌, subst}
use Rattle.serde_json.specs.Data.{Data}
use Rattle.serde_json.specs.declared.value.Value.{Value}
use Rattle.l6_rpc.specs.Rpc.{Reads, kind_of}
use Rattle.l6_rpc.specs.Takes.{Obeys, Takes}
use Rattle.l6_rpc.specs.declared.refusal.Refusal.{Refusal}
use Rattle.l6_rpc.specs.declared.service.Note.{Note}
use Rattle.l6_rpc.specs.declared.server.Phase.{Phase}

module _ {State : Type 0} {IsAble : State → Value → Type 0}
    {Answers : State → List ℕ → Data → Result Value Refusal → Type 0}
    {Notes : State → List ℕ → Data → Option Note → State → Type 0} where
  pub takes_value : {state after : State} {old new : Phase} {body : List ℕ} {sent : Option Data}
      {status : Option ℕ} (value : Data) → Reads body value →
      Obeys IsAble Answers Notes state after old new value (kind_of value) sent status →
      Takes IsAble Answers Notes state after old new body sent status
  takes_value {state} {after} {old} {new} {body} {sent} {status} value reads obeys = record {
    unread = λ none. absurd (none value reads);
    read = λ other again.
        let same : Some value ≡ Some other = sym reads.1 ∙ again.1 in
        let is : value ≡ other = cc in
        subst (λ (it : Data). Obeys IsAble Answers Notes state after old new it (kind_of it) sent status)
        is obeys;
  }
