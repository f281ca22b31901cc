-- Where no operation takes a block, no rule of choice matters.
use Rattle.std.proofs.Common.{◌≡◌, ℕ, zero, suc, Bool, true, false, List, [], ◌∷◌, length, Option, None, Some, Result, Ok, not, cond, get_or, refl, ap, sym, ◌∙◌, inl, inr}
use Rattle.std.specs.Prelude.{◌-◌, ◌==◌, slice_get}
use Rattle.std.specs.List.{list_all}
use Rattle.std.proofs.lemmas.Bool.{both_ways, cases_lt, not-true}
use Rattle.std.proofs.lemmas.Option.{get_or_from_slice_get, slice_get_within}
use Rattle.std.proofs.Math.ListN.{get_or-eq_default}
use Rattle.l6_prog.specs.Statement.{Parts, plain_done}
use Rattle.l6_prog.specs.declared.condition.Cond.{Cond}
use Rattle.l6_prog.specs.declared.condition.Test.{Test}
use Rattle.l6_prog.specs.declared.exit.Exit.{Exit}
use Rattle.l6_prog.specs.declared.operation.Op.{Op}
use Rattle.l6_prog.specs.declared.operation.Op.TheVariants.{Get, Duplicate}
use Rattle.l6_prog.proofs.Targets.{passes_at}
use Rattle.l6_store.specs.Open.{Choice}
use Rattle.l6_store.specs.Rule.{Rule}
use Rattle.l6_steps.specs.declared.trap.Trap.{Trap}
use Rattle.l6_steps.specs.Laws.{EndsUnderEachRule}
use Rattle.l6_word.specs.Trying.{◌>>=◌}
use Rattle.l6_steps.specs.Configuration.{Configuration, configuration_at, pick_at, state_at}
use Rattle.l6_steps.specs.Row.{condition, action_result_of, row}
use Rattle.l6_steps.specs.ActionResult.{ActionResult}
use Rattle.l6_steps.specs.Run.{IsRun}
use Rattle.l6_steps.specs.State.{RunContext, RunParameters, Memory, State, is_last}
use Rattle.l6_steps.specs.Step.{action_following, action_result_at, done_at, next, outcome, statement_at}
use Rattle.l6_steps.specs.Taking.{takes_block, takes_no_block, takes_none}
use Rattle.l6_steps.proofs.Numbered.{configuration_after_goes_on}

-- what an operation does that takes no block
row_same : (op : Op ℕ) (parameters : RunParameters) (choice choice' : Choice) (memory : Memory) →
    takes_block op ≡ false →
    row parameters choice op memory ≡ row parameters choice' op memory
row_same (Get chain size old label) parameters choice choice' memory takes =
    absurd (both_ways true takes refl)
row_same (Duplicate chain block label) parameters choice choice' memory takes =
    absurd (both_ways true takes refl)
row_same other parameters choice choice' memory takes = refl

-- what a condition, an operation that takes no block, or an exit does
chosen_same : (parameters : RunParameters) (choice choice' : Choice) (memory : Memory) (test : Cond)
    (tests : List Test) (last : Exit ℕ)
    (found : Option (Op ℕ)) (first : Bool) →
    ((op : Op ℕ) → found ≡ Some op → takes_block op ≡ false) →
    action_result_of parameters choice
    (cond first (condition test tests) (action_following last found)) memory
    ≡ action_result_of parameters choice'
    (cond first (condition test tests) (action_following last found)) memory
chosen_same parameters choice choice' memory test tests last found true none = refl
chosen_same parameters choice choice' memory test tests last None false none = refl
chosen_same parameters choice choice' memory test tests last (Some op) false none =
    row_same op parameters choice choice' memory (none op refl)

-- no operation of the statement at a number takes a block, also where there is none
none_at : (program : List Parts) (number : ℕ) → takes_no_block program ≡ true →
    takes_none (get_or program number plain_done) ≡ true
none_at program number none =
    elim (cases_lt number (length program)) as
    (λ _. takes_none (get_or program number plain_done) ≡ true) [
      | inl within ↦ passes_at takes_none program number plain_done none within
      | inr past ↦ ap takes_none (get_or-eq_default program plain_done past)
    ]

-- an operation among those that take no block
takes_not : (operations : List (Op ℕ)) (number : ℕ) (op : Op ℕ) →
    list_all (λ operation. not (takes_block operation)) operations ≡ true →
    slice_get operations number ≡ Some op → takes_block op ≡ false
takes_not operations number op none found =
    let within = slice_get_within operations number op found in
    let is = get_or_from_slice_get operations number op op found in
    not-true (takes_block op)
    (ap (λ o. not (takes_block o)) (sym is)
    ∙ passes_at (λ operation. not (takes_block operation)) operations number op none within)

-- what the action at a state's position does
action_result_same : (context : RunContext) (choice choice' : Choice) (old : State) →
    takes_no_block context.program ≡ true →
    action_result_at context choice old ≡ action_result_at context choice' old
action_result_same context choice choice' old none =
    let statement = statement_at context.program old.at in
    ap (λ (action_result : Result ActionResult Trap). action_result >>= λ d. Ok (done_at old.at d))
    (chosen_same context.parameters choice choice' old.memory statement.condition statement.tests
    statement.exit
    (slice_get statement.operations (old.at.action - 1)) (old.at.action == 0)
    (λ op found. takes_not statement.operations (old.at.action - 1) op
    (none_at context.program old.at.statement none) found))

-- the states of a run are those of the run under a rule
run_numbered : (rule : Rule) (context : RunContext) (state : State) (older : List State) →
    takes_no_block context.program ≡ true → IsRun context (state ∷ older) →
    (n : ℕ) × (state ≡ state_at rule context n)
run_numbered rule context state [] none run = (zero, run)
run_numbered rule context state (old ∷ older) none run =
    let before = run_numbered rule context old older none run.1 in
    let configuration = configuration_at rule context before.0 in
    let goes_on : is_last context configuration.state ≡ false =
    ap (is_last context) (sym before.1) ∙ run.0.goes_on in (
      suc before.0,
      run.0.leads
          ∙ ap (next context run.0.choice) before.1
          ∙ ap (outcome configuration.state)
          (action_result_same context run.0.choice
          (pick_at rule context configuration) configuration.state none)
          ∙ sym (ap (λ (m : Configuration). m.state)
          (configuration_after_goes_on rule context configuration goes_on)),
    )

pub ends_under_each_rule : EndsUnderEachRule
ends_under_each_rule rule context final none end =
    let numbered = run_numbered rule context final end.reached.older none end.reached.run in
    record { number = numbered.0; is = numbered.1; last = end.last }
