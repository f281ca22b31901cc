-- What passes at a channel: each message is answered before the next one comes.
use Rattle.std.specs.Prelude.{◌≡◌, ◌≤◌, ℕ, List, [], ◌∷◌, ◌++◌, ◌⊎◌, Option, Some, None, ⊤, Result}
use Rattle.serde_json.specs.Data.{Data, depth}
use Rattle.serde_json.specs.Read.{read, max_depth}
use Rattle.serde_json.specs.declared.value.Value.{Value}
use Rattle.l6_rpc.specs.Takes.{Takes}
use Rattle.l6_rpc.specs.declared.refusal.Refusal.{Refusal}
use Rattle.l6_rpc.specs.declared.service.Note.{Note}
use Rattle.l6_rpc.specs.declared.server.Phase.{Phase}

-- the body of a message that comes, or of one that is sent
pub data Event : Type 0 where
  came : List ℕ → Event
  sent : List ℕ → Event

-- where it is known what has passed, it goes on with these events
abbrev pub GoesOn : Option (List Event) → Option (List Event) → List Event → Type 0
GoesOn None new events = ⊤
GoesOn (Some before) None events = ⊥
GoesOn (Some before) (Some after) events = after ≡ before ++ events

-- what is sent for a value: nothing where there is none, and else a text that is read as that value
abbrev pub AreSent : Option Data → List Event → Type 0
AreSent None events = events ≡ []
AreSent (Some value) events =
    (text : List ℕ) × (events ≡ sent text ∷ []) × (depth value ≤ max_depth → read text ≡ Some value)

-- a service, and how far the talk has come
module _ {State : Type 0} (IsAble : State → Value → Type 0)
    (Answers : State → List ℕ → Data → Result Value Refusal → Type 0)
    (Notes : State → List ℕ → Data → Option Note → State → Type 0) where
  -- a message comes, and what it leads to is sent
  pub record Exchanged (old new : State) (before after : Phase) (events : List Event)
      (status : Option ℕ) : Type 0 where
    pub body : List ℕ
    pub value : Option Data
    pub texts : List Event
    pub takes : Takes IsAble Answers Notes old new before after body value status
    pub are : AreSent value texts
    pub all : events ≡ came body ∷ texts

  -- messages that do not end the talk come, and each is answered before the next one
  pub data Talks : State → State → Phase → Phase → List Event → Type 0 where
    nothing : {state : State} {phase : Phase} → Talks state state phase phase []
    more : {first next last : State} {one two three : Phase} {events others : List Event} →
        Talks first next one two events → Exchanged next last two three others None →
        Talks first last one three (events ++ others)

  -- the talk ends with this status: no message comes any more, or one comes that ends it
  abbrev pub Ends : State → State → Phase → Phase → List Event → ℕ → Type 0
  Ends old new before after events status =
      ((new ≡ old) × (after ≡ before) × (events ≡ []) × (status ≡ 1))
      ⊎ Exchanged old new before after events (Some status)

  -- a talk from its beginning to its end
  pub record Serves (old new : State) (before after : Phase) (passed gone : Option (List Event))
      (status : ℕ) : Type 0 where
    pub state : State
    pub phase : Phase
    pub events : List Event
    pub others : List Event
    pub talks : Talks old state before phase events
    pub ends : Ends state new phase after others status
    pub goes : GoesOn passed gone (events ++ others)
