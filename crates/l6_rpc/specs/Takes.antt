-- What a language server makes of each message.
use Rattle.std.specs.Prelude.{◌≡◌, ◌≢◌, ℕ, List, Option, Some, None, Result, Ok, Err, codes, unwrap_or}
use Rattle.serde_json.specs.Data.{Data, null}
use Rattle.serde_json.specs.View.{view}
use Rattle.serde_json.specs.declared.value.Value.{Value}
use Rattle.l6_rpc.specs.Rpc.{Message, request, note, response, malformed, Reads, kind_of, refusal, answer, notification}
use Rattle.l6_rpc.specs.declared.refusal.Refusal.{Refusal}
use Rattle.l6_rpc.specs.declared.refusal.Refusal.TheVariants.{NoMessage, NoRequest, NotReady}
use Rattle.l6_rpc.specs.declared.service.Note.{Note}
use Rattle.l6_rpc.specs.declared.server.Phase.{Phase}
use Rattle.l6_rpc.specs.declared.server.Phase.TheVariants.{New, Ready, Down}

-- the answer to a request with this id, by its outcome
abbrev pub answer_by : Data → Result Value Refusal → Data
answer_by id (Ok outcome) = answer id (view outcome)
answer_by id (Err why) = refusal id why

-- what is sent of what a notification leads to
abbrev pub sent_of : Option Note → Option Data
sent_of None = None
sent_of (Some it) = Some (notification it.method.now (view it.parameters))

-- the exit status after an exit: 0 once the server was shut down, and otherwise 1
abbrev pub exit_status : Phase → ℕ
exit_status New = 1
exit_status Ready = 1
exit_status Down = 0

-- a service: what it can do, how it answers a method's message, and what a notification leads to
module _ {State : Type 0} (IsAble : State → Value → Type 0)
    (Answers : State → List ℕ → Data → Result Value Refusal → Type 0)
    (Notes : State → List ℕ → Data → Option Note → State → Type 0) where
  -- a request of this method leads from one phase to another, with this outcome: the first one
  -- initializes the server, and none is obeyed after a shutdown
  pub record Requested (state : State) (method : List ℕ) (message : Data) (old new : Phase)
      (outcome : Result Value Refusal) : Type 0 where
    pub too_early : old ≡ New → method ≢ codes "initialize" →
        (outcome ≡ Err NotReady) × (new ≡ New)
    pub first : old ≡ New → method ≡ codes "initialize" →
        ((value : Value) × (outcome ≡ Ok value) × IsAble state value) × (new ≡ Ready)
    pub twice : old ≡ Ready → method ≡ codes "initialize" →
        (outcome ≡ Err NoRequest) × (new ≡ Ready)
    pub last : old ≡ Ready → method ≡ codes "shutdown" →
        ((value : Value) × (outcome ≡ Ok value) × (view value ≡ null)) × (new ≡ Down)
    pub too_late : old ≡ Down → (outcome ≡ Err NoRequest) × (new ≡ Down)
    pub others : old ≡ Ready → method ≢ codes "initialize" → method ≢ codes "shutdown" →
        Answers state method message outcome × (new ≡ Ready)

  -- a notification of this method: one of exit ends the server, and others count while it is ready
  pub record Noted (state after : State) (method : List ℕ) (message : Data) (phase : Phase)
      (sent : Option Data) (status : Option ℕ) : Type 0 where
    pub exit : method ≡ codes "exit" →
        (sent ≡ None) × (status ≡ Some (exit_status phase)) × (after ≡ state)
    pub ready : method ≢ codes "exit" → phase ≡ Ready →
        ((it : Option Note) × Notes state method message it after × (sent ≡ sent_of it))
        × (status ≡ None)
    pub others : method ≢ codes "exit" → phase ≢ Ready →
        (sent ≡ None) × (after ≡ state) × (status ≡ None)

  -- what a message of this kind leads to
  abbrev pub Obeys : State → State → Phase → Phase → Data → Message → Option Data → Option ℕ → Type 0
  Obeys state after old new message (request id method) sent status =
      ((outcome : Result Value Refusal) × Requested state method message old new outcome
      × (sent ≡ Some (answer_by id outcome))) × (after ≡ state) × (status ≡ None)
  Obeys state after old new message (note method) sent status =
      Noted state after method message old sent status × (new ≡ old)
  Obeys state after old new message response sent status =
      (sent ≡ None) × (after ≡ state) × (new ≡ old) × (status ≡ None)
  Obeys state after old new message (malformed id) sent status =
      (sent ≡ Some (refusal (unwrap_or id null) NoRequest))
      × (after ≡ state) × (new ≡ old) × (status ≡ None)

  -- what the body of a message leads to: if it is no text of JSON, only to an error, and otherwise to
  -- what its value does
  pub record Takes (state after : State) (old new : Phase) (body : List ℕ) (sent : Option Data)
      (status : Option ℕ) : Type 0 where
    pub unread : ((value : Data) → ¬ (Reads body value)) →
        (sent ≡ Some (refusal null NoMessage)) × (after ≡ state) × (new ≡ old) × (status ≡ None)
    pub read : (value : Data) → Reads body value →
        Obeys state after old new value (kind_of value) sent status
