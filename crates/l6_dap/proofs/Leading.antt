-- A request that asks for a move, and for no call, does what the move does.
use Rattle.std.proofs.Common.{◌≡◌, List, ℕ, [], Option, Some, None, Result, Ok, Err, sym, ◌∙◌, subst}
use Rattle.std.specs.Prelude.{IfOk}
use Rattle.serde_json.specs.Data.{Data}
use Rattle.l6_session.specs.declared.command.Move.{Move}
use Rattle.l6_dap.specs.Messages.{Outcome}
use Rattle.l6_dap.specs.Requests.{call_asked, move_asked}
use Rattle.l6_dap.specs.Runs.{AdapterState, Does, Makes}
use Rattle.l6_dap.specs.declared.answer.Answer.{Answer}
use Rattle.l6_dap.specs.inner.Asked.{outcome_of}

moves_as : (command : List ℕ) (arguments : Option Data) (to : Move) (old new : AdapterState) (outcome : Outcome)
    (events : List (List ℕ)) → call_asked command arguments ≡ None → move_asked command arguments ≡ Some to →
    Makes to old new events → Does command arguments old new outcome events
moves_as command arguments to old new outcome events none asked makes = record {
  enters = λ action call.
      let never : None ≡ Some action = sym none ∙ call in
      absurd (cc);
  moves = λ _ other also.
      let same : Some to ≡ Some other = sym asked ∙ also in
      let is : to ≡ other = cc in
      subst (λ (it : Move). Makes it old new events) is makes;
  others = λ _ no.
      let never : None ≡ Some to = sym no ∙ asked in
      absurd (cc);
}

pub moved_as : {E : Type 0} (command : List ℕ) (arguments : Option Data) (to : Move) (old new : AdapterState)
    (before after : List (List ℕ)) (result : Result Answer E) →
    call_asked command arguments ≡ None → move_asked command arguments ≡ Some to →
    IfOk result (λ it. before ≡ [] → Makes to old new after) →
    IfOk result (λ it. before ≡ [] → Does command arguments old new (outcome_of it) after)
moved_as command arguments to old new before after (Ok answer) none asked makes =
    λ empty. moves_as command arguments to old new (outcome_of answer) after none asked (makes empty)
moved_as command arguments to old new before after (Err why) none asked makes = makes
