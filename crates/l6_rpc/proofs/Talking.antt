-- Talks, message by message.
use Rattle.std.proofs.Common.{◌≡◌, ℕ, List, [], ◌∷◌, ◌++◌, Option, Some, None, Result, refl, sym, ap, ◌∙◌, append_assoc, append-nil, inl, inr}
use Rattle.serde_json.specs.Data.{Data}
use Rattle.serde_json.specs.declared.value.Value.{Value}
use Rattle.l6_rpc.specs.Serving.{Event, GoesOn, AreSent, Exchanged, Talks, Ends, Serves}
use Rattle.l6_rpc.specs.Serving.Event.{came, sent}
use Rattle.std.proofs.Common.{Bool, true, false, subst}
use Rattle.std.specs.Prelude.{if◌then◌else◌}
use Rattle.l6_rpc.specs.Takes.{Takes}
use Rattle.l6_rpc.specs.Serving.Talks.{nothing, more}
use Rattle.l6_rpc.specs.declared.refusal.Refusal.{Refusal}
use Rattle.l6_rpc.specs.declared.service.Note.{Note}
use Rattle.l6_rpc.specs.declared.server.Phase.{Phase}

-- nothing passes
pub goes_nowhere : (passed : Option (List Event)) → GoesOn passed passed []
goes_nowhere None = tt
goes_nowhere (Some events) = sym (append-nil events)

-- what passes, and then what passes after it
pub goes_on : (one two three : Option (List Event)) (events others : List Event) →
    GoesOn one two events → GoesOn two three others → GoesOn one three (events ++ others)
goes_on None two three events others first then' = tt
goes_on (Some one) None three events others first then' = absurd first
goes_on (Some one) (Some two) None events others first then' = absurd then'
goes_on (Some one) (Some two) (Some three) events others first then' =
    then' ∙ ap (λ (it : List Event). it ++ others) first ∙ append_assoc one events others

-- a message has come
pub received : (before after : Option (List Event)) (is_one : Bool) (body : List ℕ) → is_one ≡ true →
    GoesOn before after (if is_one then came body ∷ [] else []) → GoesOn before after (came body ∷ [])
received before after true body is goes = goes
received before after false body is goes = absurd (cc)

module _ {State : Type 0} (IsAble : State → Value → Type 0)
    (Answers : State → List ℕ → Data → Result Value Refusal → Type 0)
    (Notes : State → List ℕ → Data → Option Note → State → Type 0) where
  -- a talk so far
  pub record Talked (old new : State) (before after : Phase) (passed gone : Option (List Event))
      : Type 0 where
    pub events : List Event
    pub talks : Talks IsAble Answers Notes old new before after events
    pub goes : GoesOn passed gone events

  pub begins : (state : State) (phase : Phase) (passed : Option (List Event)) →
      Talked state state phase phase passed passed
  begins state phase passed = record {
    events = [];
    talks = nothing;
    goes = goes_nowhere passed;
  }

  -- what a message led to was sent
  pub exchanged : (old new : State) (before after : Phase) (body slice : List ℕ)
      (value : Option Data) (got status : Option ℕ) (texts : List Event) → slice ≡ body → got ≡ status →
      Takes IsAble Answers Notes old new before after slice value got → AreSent value texts →
      Exchanged IsAble Answers Notes old new before after (came body ∷ texts) status
  exchanged old new before after body slice value got status texts same is takes are = record {
    body = body;
    value = value;
    texts = texts;
    takes = subst (λ (it : List ℕ). Takes IsAble Answers Notes old new before after it value status) same
        (subst (λ (it : Option ℕ). Takes IsAble Answers Notes old new before after slice value it) is
        takes);
    are = are;
    all = refl;
  }

  -- a talk goes on by a message
  pub one_more : (old now new : State) (before at after : Phase)
      (passed gone further : Option (List Event)) (events : List Event) →
      Talked old now before at passed gone →
      Exchanged IsAble Answers Notes now new at after events None → GoesOn gone further events →
      Talked old new before after passed further
  one_more old now new before at after passed gone further events talked exchange goes = record {
    events = talked.events ++ events;
    talks = more talked.talks exchange;
    goes = goes_on passed gone further talked.events events talked.goes goes;
  }
