-- The last state of a run under a rule.
use Rattle.std.proofs.Common.{◌≡◌, ℕ, zero, suc, ◌+◌, ◌<◌, ◌≤◌, Bool, true, false, Option, None, Some, Result, Ok, Err, refl, sym, ap, ◌∙◌, subst, inl, inr, ◌⊎◌, arith, eq-eqb, ◌-◌}
use Rattle.std.specs.Prelude.{is_some, is_none, ◌||◌, ◌&&◌, ◌==◌, unwrap_or}
use Rattle.std.proofs.lemmas.Bool.{cases_lt}
use Rattle.l6_store.specs.Rule.{Rule}
use Rattle.l6_store.proofs.Least.{Answers, least_answers}
use Rattle.l6_steps.specs.declared.halt.Halt.{Halt}
use Rattle.l6_steps.specs.declared.trap.Trap.{Trap}
use Rattle.l6_steps.specs.ActionResult.{ActionResult}
use Rattle.l6_steps.specs.Configuration.{Configuration, IsNumbered, configuration_after, configuration_at, pick_at, state_at}
use Rattle.l6_steps.specs.Numbering.{last_number}
use Rattle.l6_steps.specs.State.{RunContext, State, is_last}
use Rattle.l6_steps.specs.Step.{action_result_at, ending_after, outcome}
use Rattle.l6_steps.proofs.Numbered.{later_stays, configuration_after_goes_on, configuration_after_stays}

-- a state has not ended, and as many steps are counted as states came before it
pub record GoesOnAt (state : State) (number : ℕ) : Type 0 where
  pub open_yet : state.ending ≡ None
  pub counted : state.count ≡ number

-- a state that has ended is last
ended_last : (context : RunContext) (state : State) (ending : Option Halt) →
    state.ending ≡ ending → (is_last context state ≡ true) ⊎ (state.ending ≡ None)
ended_last context state (Some halt) is =
    inl (ap (λ e. is_some e || (is_none e && state.count == context.parameters.limits.steps)) is)
ended_last context state None is = inr is

-- the state to which an action's result leads has a step more, and a trap leads to a last one
after_action_result : (context : RunContext) (old : State) (number : ℕ)
    (asked : Result ActionResult Trap) →
    GoesOnAt old number →
    (is_last context (outcome old asked) ≡ true) ⊎ GoesOnAt (outcome old asked) (number + 1)
after_action_result context old number (Err trap) goes_on = inl refl
after_action_result context old number (Ok action_result) goes_on =
    elim (ended_last context (outcome old (Ok action_result)) (ending_after action_result.jump) refl)
    as (λ _. (is_last context (outcome old (Ok action_result)) ≡ true)
    ⊎ GoesOnAt (outcome old (Ok action_result)) (number + 1)) [
      | inl last ↦ inl last
      | inr open_yet ↦ inr (record {
        open_yet = open_yet;
        counted = ap (λ n. n + 1) goes_on.counted;
      })
    ]

-- so a configuration is last, or goes on with as many steps as its number
abbrev LastOr : RunContext → State → ℕ → Type 0
LastOr context state number = (is_last context state ≡ true) ⊎ GoesOnAt state number

after_open : (rule : Rule) (context : RunContext) (old : Configuration) (number : ℕ) (last : Bool) →
    is_last context old.state ≡ last → GoesOnAt old.state number →
    LastOr context (configuration_after rule context old).state (number + 1)
after_open rule context old number true is goes_on =
    inl (subst (λ (m : Configuration). is_last context m.state ≡ true)
    (sym (configuration_after_stays rule context old is)) is)
after_open rule context old number false is goes_on =
    subst (λ (m : Configuration). LastOr context m.state (number + 1))
    (sym (configuration_after_goes_on rule context old is))
    (after_action_result context old.state number
    (action_result_at context (pick_at rule context old) old.state) goes_on)

pub last_or_goes_on : (rule : Rule) (context : RunContext) (n : ℕ) →
    LastOr context (state_at rule context n) n
last_or_goes_on rule context zero = inr (record { open_yet = refl; counted = refl })
last_or_goes_on rule context (suc n) =
    let old = configuration_at rule context n in
    elim (last_or_goes_on rule context n)
    as (λ _. LastOr context (state_at rule context (suc n)) (suc n)) [
      | inl last ↦
          inl (subst (λ (m : Configuration). is_last context m.state ≡ true)
          (sym (configuration_after_stays rule context old last)) last)
      | inr goes_on ↦
          subst (LastOr context (state_at rule context (suc n))) (omega arith)
          (after_open rule context old n (is_last context old.state) refl goes_on)
    ]

-- the state of the number of the limit is last
at_limit_last : (rule : Rule) (context : RunContext) →
    is_last context (state_at rule context context.parameters.limits.steps) ≡ true
at_limit_last rule context =
    let steps = context.parameters.limits.steps in
    let state = state_at rule context steps in
    elim (last_or_goes_on rule context steps) as (λ _. is_last context state ≡ true) [
      | inl last ↦ last
      | inr goes_on ↦
          ap (λ e. is_some e || (is_none e && state.count == steps)) goes_on.open_yet
          ∙ ap (λ n. n == steps) goes_on.counted
          ∙ eq-eqb steps steps refl
    ]

-- what follows from an answer to the search for the last state
abbrev Found : Rule → RunContext → ℕ → Type 0
Found rule context number =
    (number ≤ context.parameters.limits.steps)
    × (is_last context (state_at rule context number) ≡ true)
    × ((k : ℕ) → k < number → is_last context (state_at rule context k) ≡ false)

found : (rule : Rule) (context : RunContext) (answer : Option ℕ) →
    Answers (suc context.parameters.limits.steps)
    (λ n. is_last context (state_at rule context n)) answer →
    Found rule context (unwrap_or answer 0)
unfolding Answers
found rule context (Some number) answers = (omega (arith, answers.0), answers.1, answers.2)
found rule context None none =
    let last = at_limit_last rule context in
    let other = none context.parameters.limits.steps (omega arith) in
    absurd (cc (last, other))

pub last_found : (rule : Rule) (context : RunContext) → Found rule context (last_number rule context)
unfolding last_number
last_found rule context =
    found rule context _
    (least_answers (suc context.parameters.limits.steps)
    (λ n. is_last context (state_at rule context n)))

pub last_is : (rule : Rule) (context : RunContext) →
    is_last context (state_at rule context (last_number rule context)) ≡ true
last_is rule context = (last_found rule context).1

pub last_within : (rule : Rule) (context : RunContext) →
    last_number rule context ≤ context.parameters.limits.steps
last_within rule context = (last_found rule context).0

pub last_least : (rule : Rule) (context : RunContext) (n : ℕ) →
    is_last context (state_at rule context n) ≡ true → last_number rule context ≤ n
last_least rule context n last =
    elim (cases_lt n (last_number rule context)) as (λ _. last_number rule context ≤ n) [
      | inl below ↦
          (let other = (last_found rule context).2 n below in absurd (cc (last, other)))
      | inr above ↦ above
    ]

-- a state up to the last that is not last comes before it
pub not_last_below : (rule : Rule) (context : RunContext) (n : ℕ) → n ≤ last_number rule context →
    is_last context (state_at rule context n) ≡ false → n < last_number rule context
not_last_below rule context n within goes_on =
    elim (cases_lt n (last_number rule context)) as (λ _. n < last_number rule context) [
      | inl below ↦ below
      | inr above ↦
          (let same : n ≡ last_number rule context = omega arith in
          let last = ap (λ k. is_last context (state_at rule context k)) same
          ∙ last_is rule context in
          absurd (cc (last, goes_on)))
    ]

-- a configuration of the run that is last is that of the last number
pub last_configuration : (rule : Rule) (context : RunContext) (configuration : Configuration) →
    IsNumbered rule context configuration → is_last context configuration.state ≡ true →
    configuration ≡ configuration_at rule context (last_number rule context)
last_configuration rule context configuration numbered last =
    let final = last_number rule context in
    let there = ap (λ (m : Configuration). is_last context m.state) (sym numbered.is) ∙ last in
    let following = last_least rule context numbered.number there in
    let apart : numbered.number ≡ (numbered.number - final) + final = omega (arith, following) in
    numbered.is ∙ ap (configuration_at rule context) apart
    ∙ later_stays rule context (numbered.number - final) final (last_is rule context)
