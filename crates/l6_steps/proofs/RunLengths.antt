-- Every run ends, and only in a last state.
use Rattle.std.proofs.Common.{◌≡◌, ℕ, ◌+◌, ◌≤◌, Bool, true, false, List, [], ◌∷◌, length, Option, None, Some, Result, Ok, Err, refl, sym, ap, ◌∙◌, arith, eq-eqb}
use Rattle.std.specs.Prelude.{is_some, is_none, ◌||◌, ◌&&◌, ◌==◌}
use Rattle.l6_store.specs.Scan.{scan_rule}
use Rattle.l6_store.proofs.Scan.{scan_chooses}
use Rattle.l6_steps.specs.declared.halt.Halt.{Halt}
use Rattle.l6_steps.specs.declared.trap.Trap.{Trap}
use Rattle.l6_steps.specs.ActionResult.{ActionResult}
use Rattle.l6_steps.specs.Laws.{RunsEnd, RunsGoOn}
use Rattle.l6_steps.specs.Run.{IsRun}
use Rattle.l6_steps.specs.State.{RunContext, State, is_last}
use Rattle.l6_steps.specs.Step.{action_result_at, next, outcome}

-- a run has so many states before this one, which is no more than it may count; and as many are counted,
-- where the run has not ended
record IsCounted (context : RunContext) (state : State) (number : ℕ) : Type 0 where
  few : number ≤ context.parameters.limits.steps
  counted : state.ending ≡ None → state.count ≡ number

-- a state from which the run goes on has not ended, and has counted less than it may
record GoesOn (context : RunContext) (old : State) : Type 0 where
  has_not_ended : old.ending ≡ None
  below : old.count ≡ context.parameters.limits.steps → ⊥

going : (context : RunContext) (old : State) (ending : Option Halt) (at_limit : Bool) →
    old.ending ≡ ending → (old.count == context.parameters.limits.steps) ≡ at_limit →
    is_last context old ≡ false → GoesOn context old
going context old (Some halt) at_limit is counts goes_on =
    absurd (cc (sym goes_on
    ∙ ap (λ (e : Option Halt). is_some e || (is_none e && old.count == context.parameters.limits.steps))
    is))
going context old None true is counts goes_on =
    absurd (cc (sym goes_on
    ∙ ap (λ (e : Option Halt). is_some e || (is_none e && old.count == context.parameters.limits.steps))
    is
    ∙ counts))
going context old None false is counts goes_on = record {
  has_not_ended = is;
  below = λ same. absurd (cc (sym counts
      ∙ eq-eqb old.count context.parameters.limits.steps same));
}

-- a step is counted, unless it ends the run
counted_after : (old new : State) (asked : Result ActionResult Trap) (number : ℕ) →
    new ≡ outcome old asked → old.count ≡ number → new.ending ≡ None → new.count ≡ number + 1
counted_after old new (Ok done) number is counted open_yet =
    ap (λ (s : State). s.count) is ∙ ap (λ (n : ℕ). n + 1) counted
counted_after old new (Err trap) number is counted open_yet =
    absurd (cc (sym open_yet ∙ ap (λ (s : State). s.ending) is))

-- a number that is not the greatest is below it
within : (number most : ℕ) → number ≤ most → (number ≡ most → ⊥) → number + 1 ≤ most
within number most few other = omega (arith, few, other)

run_counted : (context : RunContext) (state : State) (older : List State) →
    IsRun context (state ∷ older) → IsCounted context state (length older)
run_counted context state [] run = record {
  few = omega arith;
  counted = λ open_yet. ap (λ (s : State). s.count) run;
}
run_counted context new (old ∷ older) run =
    let step = run.0 in
    let before = run_counted context old older run.1 in
    let goes = going context old old.ending (old.count == context.parameters.limits.steps) refl refl
    step.goes_on in
    let counted = before.counted goes.has_not_ended in
    let less = within (length older) context.parameters.limits.steps before.few
    (λ same. goes.below (counted ∙ same)) in
    record {
      few = omega (arith, less);
      counted = λ open_yet.
          omega (
            arith,
            counted_after old new (action_result_at context step.choice old) (length older)
                step.leads counted open_yet,
          );
    }

-- so no run has more states than one for each step that it may count, and its start
pub runs_end : RunsEnd
runs_end context state older run = (run_counted context state older run).few

-- from each state that is not last a step leads on: the plain rule's picks are a choice
pub runs_go_on : RunsGoOn
runs_go_on context old goes_on =
    let choice = scan_rule.pick context.parameters.units old.memory.blocks [] in (
      next context choice old,
      record {
        goes_on = goes_on;
        choice = choice;
        fits = scan_chooses context.parameters.units old.memory.blocks [];
        leads = refl;
      },
    )
