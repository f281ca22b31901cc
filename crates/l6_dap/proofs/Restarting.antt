-- A run that is launched again, and then begins, is restarted.
use Rattle.std.proofs.Common.{◌≡◌, List, ℕ, [], ◌++◌, Option, Some, Result, Ok, Err, refl, sym, ap, ◌∙◌, subst}
use Rattle.std.specs.Prelude.{IfOk}
use Rattle.l6_dap.specs.Debugged.{Debugged}
use Rattle.l6_dap.specs.Launching.{Relaunches, begun}
use Rattle.l6_dap.specs.Messages.Outcome.{done}
use Rattle.l6_dap.specs.Printed.{printed_by, sent, unsent}
use Rattle.l6_dap.specs.Runs.{AdapterState, Restarting}
use Rattle.l6_dap.specs.declared.answer.Answer.{Answer}
use Rattle.l6_dap.specs.inner.Asked.{outcome_of}

-- what a run does that begins
abbrev Began : Option Debugged → AdapterState → List (List ℕ) → List (List ℕ) → Answer → Type 0
Began there new before after answer = (it : Debugged) → there ≡ Some it →
    (outcome_of answer ≡ done) × (new.debugged ≡ Some (sent (begun it)))
    × (printed_by after ≡ printed_by before ++ unsent (begun it))

restarts : (old new : AdapterState) (launched again : Debugged) (before after : List (List ℕ)) (answer : Answer) →
    old.debugged ≡ Some launched → Relaunches launched again → new.nodes ≡ [] →
    Began (Some again) new before after answer → before ≡ [] →
    Restarting old.debugged old new (outcome_of answer) after
restarts old new launched again before after answer was relaunched nodes began none =
    let it = began again refl in
    let prints = it.2 ∙ ap (λ (events : List (List ℕ)). printed_by events ++ unsent (begun again)) none in
    subst (λ (there : Option Debugged). Restarting there old new (outcome_of answer) after) (sym was)
    (it.0, nodes, (again, relaunched, (it.1, prints)))

pub restarted : {E : Type 0} (old new : AdapterState) (launched again : Debugged) (before after : List (List ℕ))
    (result : Result Answer E) →
    old.debugged ≡ Some launched → Relaunches launched again → new.nodes ≡ [] →
    IfOk result (Began (Some again) new before after) →
    IfOk result (λ it. before ≡ [] → Restarting old.debugged old new (outcome_of it) after)
restarted old new launched again before after (Ok answer) was relaunched nodes began =
    restarts old new launched again before after answer was relaunched nodes began
restarted old new launched again before after (Err why) was relaunched nodes began = began
