-- The numbers of the states that are visited.
use Rattle.std.proofs.Common.{◌≡◌, ℕ, zero, suc, ◌+◌, ◌-◌, ◌<◌, ◌≤◌, Bool, true, false, Option, None, Some, Result, Ok, Err, refl, sym, ap, ◌∙◌, subst, arith, add-one, inl, inr}
use Rattle.std.proofs.lemmas.Bool.{and_parts, cases_lt, leb-true}
use Rattle.l6_store.specs.Rule.{Rule}
use Rattle.l6_steps.specs.declared.halt.Halt.{Halt}
use Rattle.l6_steps.specs.declared.halt.Halt.TheVariants as halts
use Rattle.l6_steps.specs.declared.jump.Jump.{Jump}
use Rattle.l6_steps.specs.declared.jump.Jump.TheVariants.{Onward, Next, To, Back, Call, Done, Fail}
use Rattle.l6_steps.specs.declared.trap.Trap.{Trap}
use Rattle.l6_steps.specs.ActionResult.{ActionResult}
use Rattle.l6_steps.specs.Limits.{are_allowed}
use Rattle.l6_steps.specs.Configuration.{Configuration, IsNumbered, configuration_after, configuration_at, pick_at, state_at}
use Rattle.l6_steps.specs.Numbering.{last_number}
use Rattle.l6_steps.specs.Numerals.{most_steps}
use Rattle.l6_steps.specs.Output.{BeginAlike}
use Rattle.l6_steps.specs.RunState.{RunState}
use Rattle.l6_steps.specs.State.{State, RunContext, is_last}
use Rattle.l6_steps.specs.Step.{action_result_at, ending_after, outcome}
use Rattle.l6_steps.proofs.Lasting.{last_found, last_is, last_least, last_configuration, last_or_goes_on, last_within, not_last_below}
use Rattle.l6_steps.proofs.Numbered.{later_stays, configuration_after_goes_on}
use Rattle.l6_steps.proofs.Outputs.{outputs_begin_alike}
use Rattle.l6_machine.specs.Counting.{number_by, number_of}
use Rattle.l6_machine.specs.Later.{configuration_later, state_later}
use Rattle.l6_history.specs.History.{number_to, run_state_at}
use Rattle.l6_history.specs.inner.NumberedMachine.{IsAtState}

-- a run has no state of a greater number than the most steps that are allowed
pub last_bound : (rule : Rule) (context : RunContext) → are_allowed context.parameters.limits ≡ true →
    last_number rule context ≤ most_steps
last_bound rule context allowed =
    let steps = leb-true context.parameters.limits.steps most_steps (and_parts _ _ allowed).0 in
    omega (arith, steps, last_within rule context)

-- where a machine is, by the number of the state
pub is_last_at : (rule : Rule) (run_state : RunState) (number : ℕ) (last : _) →
    IsAtState rule run_state number → is_last run_state.context run_state.configuration.state ≡ last →
    is_last run_state.context (state_at rule run_state.context number) ≡ last
is_last_at rule run_state number last holds_there is =
    ap (λ (s : RunState). is_last run_state.context s.configuration.state) (sym holds_there.is) ∙ is

-- a last state is where it is
pub stays_last : (rule : Rule) (run_state : RunState) (number : ℕ) → IsAtState rule run_state number →
    is_last run_state.context run_state.configuration.state ≡ true →
    number ≡ last_number rule run_state.context
stays_last rule run_state number holds_there is =
    let least = last_least rule run_state.context number
    (is_last_at rule run_state number true holds_there is) in
    omega (arith, least, holds_there.within)

-- another one is before the last
pub goes_on_there : (rule : Rule) (run_state : RunState) (number : ℕ) → IsAtState rule run_state number →
    is_last run_state.context run_state.configuration.state ≡ false →
    number < last_number rule run_state.context
goes_on_there rule run_state number holds_there is =
    not_last_below rule run_state.context number holds_there.within
    (is_last_at rule run_state number false holds_there is)

-- and a step leads to the next
pub steps_on : (rule : Rule) (old new : RunState) (number : ℕ) → IsAtState rule old number →
    is_last old.context old.configuration.state ≡ false →
    new.configuration ≡ configuration_after rule old.context old.configuration →
    new.context ≡ old.context →
    IsAtState rule new (number + 1)
steps_on rule old new number holds_there is next same =
    let there : new.configuration ≡ configuration_at rule old.context (number + 1) =
    next ∙ ap (λ (s : RunState). configuration_after rule old.context s.configuration) holds_there.is
    ∙ ap (configuration_at rule old.context) (sym (add-one number)) in
    let below = goes_on_there rule old number holds_there is in
    record {
      is = ap (λ m. record { context = new.context; configuration = m })
          (there ∙ ap (λ w. configuration_at rule w (number + 1)) (sym same));
      within = subst (λ w. number + 1 ≤ last_number rule w) (sym same) (omega (arith, below));
      allowed = subst (λ (w : RunContext). are_allowed w.parameters.limits ≡ true) (sym same)
          holds_there.allowed;
    }

-- a jump that goes on or ends the run is counted, and a trap is not
by_jump : (jump : Jump) (count : ℕ) → number_by (ending_after jump) count ≡ count
by_jump Onward count = refl
by_jump Next count = refl
by_jump (To statement) count = refl
by_jump (Back there) count = refl
by_jump (Call called fail) count = refl
by_jump Done count = refl
by_jump Fail count = refl

by_action_result : (old : State) (number : ℕ) (asked : Result ActionResult Trap) → old.count ≡ number →
    number_of (outcome old asked) ≡ number + 1
by_action_result old number (Ok action_result) is =
    by_jump action_result.jump (old.count + 1) ∙ ap (λ n. n + 1) is
by_action_result old number (Err trap) is = ap (λ n. n + 1) is

counted_following : (rule : Rule) (context : RunContext) (n : ℕ) →
    is_last context (state_at rule context n) ≡ false →
    number_of (state_at rule context (suc n)) ≡ n + 1
counted_following rule context n goes_on =
    let old = configuration_at rule context n in
    elim (last_or_goes_on rule context n)
    as (λ _. number_of (state_at rule context (suc n)) ≡ n + 1) [
      | inl last ↦ absurd (cc (last, goes_on))
      | inr open' ↦
          ap (λ (m : Configuration). number_of m.state)
          (configuration_after_goes_on rule context old goes_on)
          ∙ by_action_result old.state n
          (action_result_at context (pick_at rule context old) old.state) open'.counted
    ]

counted_at : (rule : Rule) (context : RunContext) (n : ℕ) →
    ((k : ℕ) → k < n → is_last context (state_at rule context k) ≡ false) →
    number_of (state_at rule context n) ≡ n
counted_at rule context zero before = refl
counted_at rule context (suc n) before =
    counted_following rule context n (before n (omega arith)) ∙ add-one n

-- so the number of the last state follows from its count and its ending
pub last_counted : (rule : Rule) (context : RunContext) →
    number_of (state_at rule context (last_number rule context)) ≡ last_number rule context
last_counted rule context =
    counted_at rule context (last_number rule context) (last_found rule context).2

-- and that of each state before it, too
number_at : (rule : Rule) (context : RunContext) (n : ℕ) → n ≤ last_number rule context →
    number_of (state_at rule context n) ≡ n
number_at rule context n within =
    counted_at rule context n
    (λ k below. (last_found rule context).2 k (omega (arith, below, within)))

-- which goes on where it is not the last, and counts as many steps
open_at : (rule : Rule) (context : RunContext) (n : ℕ) → n < last_number rule context →
    (state_at rule context n).count ≡ n
open_at rule context n below =
    elim (last_or_goes_on rule context n) as (λ _. (state_at rule context n).count ≡ n) [
      | inl last ↦
          (let least = last_least rule context n last in absurd (omega (arith, least, below)))
      | inr open' ↦ open'.counted
    ]

-- a configuration of the run is that of its number
configuration_of_number : (rule : Rule) (context : RunContext) (configuration : Configuration)
    (last : Bool) →
    IsNumbered rule context configuration → is_last context configuration.state ≡ last →
    (configuration ≡ configuration_at rule context (number_of configuration.state))
    × (number_of configuration.state ≤ last_number rule context)
configuration_of_number rule context configuration true numbered is =
    let there = last_configuration rule context configuration numbered is in
    let same : number_of configuration.state ≡ last_number rule context =
    ap (λ (m : Configuration). number_of m.state) there ∙ last_counted rule context in
    (there ∙ ap (configuration_at rule context) (sym same), omega (arith, same))
configuration_of_number rule context configuration false numbered is =
    let n = numbered.number in
    let within : n ≤ last_number rule context =
    elim (cases_lt (last_number rule context) n) as (λ _. n ≤ last_number rule context) [
      | inl past ↦
          (let apart : n ≡ (n - last_number rule context) + last_number rule context =
          omega (arith, past) in
          let stays : configuration ≡ configuration_at rule context (last_number rule context) =
          numbered.is ∙ ap (configuration_at rule context) apart
          ∙ later_stays rule context (n - last_number rule context) (last_number rule context)
          (last_is rule context) in
          let last : is_last context configuration.state ≡ true =
          ap (λ (m : Configuration). is_last context m.state) stays ∙ last_is rule context in
          absurd (cc (last, is)))
      | inr within ↦ within
    ] in
    let same : number_of configuration.state ≡ n =
    ap (λ (m : Configuration). number_of m.state) numbered.is ∙ number_at rule context n within in
    (numbered.is ∙ ap (configuration_at rule context) (sym same), omega (arith, same, within))

-- a machine that goes on up to a count is at the state of that number, or at the last one
pub record GoesTo (rule : Rule) (old new : RunState) (goal ran : ℕ) : Type 0 where
  pub context : new.context ≡ old.context
  pub numbered : IsNumbered rule new.context new.configuration
  pub counted : number_of new.configuration.state ≡ number_of old.configuration.state + ran
  pub few : ran ≤ goal - old.configuration.state.count
  pub stops : is_last new.context new.configuration.state ≡ false → goal ≤ new.configuration.state.count

count_within : (ending : Option Halt) (count : ℕ) → count ≤ number_by ending count
count_within (Some (halts.Trap trap)) count = omega arith
count_within (Some halts.Done) count = omega arith
count_within (Some halts.Fail) count = omega arith
count_within None count = omega arith

-- it is not short of the goal, unless the run ends before
reached : (rule : Rule) (old new : RunState) (goal ran : ℕ) (last : Bool) →
    GoesTo rule old new goal ran → is_last new.context new.configuration.state ≡ last →
    number_to rule new.context goal ≤ number_of new.configuration.state
reached rule old new goal ran true goes is =
    let there = last_configuration rule new.context new.configuration goes.numbered is in
    let same : number_of new.configuration.state ≡ last_number rule new.context =
    ap (λ (m : Configuration). number_of m.state) there ∙ last_counted rule new.context in
    omega (arith, same)
reached rule old new goal ran false goes is =
    let stops = goes.stops is in
    let counted = count_within new.configuration.state.ending new.configuration.state.count in
    omega (arith, stops, counted)

-- nor past it
within_goal : (rule : Rule) (old new : RunState) (number goal ran : ℕ) →
    IsAtState rule old number → number ≤ goal → GoesTo rule old new goal ran →
    number + ran ≤ last_number rule old.context → number + ran ≤ goal
within_goal rule old new number goal ran holds_there on goes within =
    elim (cases_lt number (last_number rule old.context)) as (λ _. number + ran ≤ goal) [
      | inl below ↦
          (let counted : old.configuration.state.count ≡ number =
          ap (λ (s : RunState). s.configuration.state.count) holds_there.is
          ∙ open_at rule old.context number below in
          let few = goes.few in
          omega (arith, counted, few, on))
      | inr past ↦ omega (arith, past, within, on)
    ]

pub goes_to : (rule : Rule) (old new : RunState) (number goal ran : ℕ) →
    IsAtState rule old number → number ≤ goal → GoesTo rule old new goal ran →
    IsAtState rule new (number + ran) × (number + ran ≡ number_to rule old.context goal)
goes_to rule old new number goal ran holds_there on goes =
    let context = new.context in
    let before : number_of old.configuration.state ≡ number =
    ap (λ (s : RunState). number_of s.configuration.state) holds_there.is
    ∙ number_at rule old.context number holds_there.within in
    let there : number_of new.configuration.state ≡ number + ran =
    goes.counted ∙ ap (λ n. n + ran) before in
    let holds_at =
    configuration_of_number rule context new.configuration
    (is_last context new.configuration.state) goes.numbered refl in
    let same : last_number rule context ≡ last_number rule old.context =
    ap (last_number rule) goes.context in
    let last : number + ran ≤ last_number rule old.context =
    omega (arith, there, holds_at.1, same) in
    let short =
    reached rule old new goal ran (is_last context new.configuration.state) goes refl in
    let past = within_goal rule old new number goal ran holds_there on goes last in (
      record {
        is = ap (λ m. record { context = context; configuration = m })
            (holds_at.0 ∙ ap (configuration_at rule context) there);
        within = omega (arith, last, same);
        allowed = subst (λ (w : RunContext). are_allowed w.parameters.limits ≡ true) (sym goes.context)
            holds_there.allowed;
      },
      omega (arith, there, same, last, short, past),
    )

-- the outputs of machines that are at states of one run begin alike
pub outputs_alike : (rule : Rule) (one other : RunState) (first second : ℕ) →
    IsAtState rule one first → IsAtState rule other second → one.context ≡ other.context →
    BeginAlike one.configuration.state.memory.output other.configuration.state.memory.output
outputs_alike rule one other first second holds_there also same =
    subst (λ (s : RunState). BeginAlike s.configuration.state.memory.output
    other.configuration.state.memory.output) (sym holds_there.is)
    (subst (λ (s : RunState). BeginAlike (state_at rule one.context first).memory.output
    s.configuration.state.memory.output) (sym also.is)
    (subst (λ (w : RunContext). BeginAlike (state_at rule one.context first).memory.output
    (state_at rule w second).memory.output) same
    (outputs_begin_alike rule one.context first second)))

-- ---- to what is watched for
-- the configuration so many steps after that of a number
later_at : (rule : Rule) (context : RunContext) (number made : ℕ) →
    configuration_later rule context made (configuration_at rule context number)
    ≡ configuration_at rule context (number + made)
later_at rule context number zero =
    ap (configuration_at rule context) (let same : number ≡ number + 0 = omega arith in same)
later_at rule context number (suc made) =
    ap (configuration_after rule context) (later_at rule context number made)
    ∙ ap (configuration_at rule context)
    (let same : suc (number + made) ≡ number + suc made = omega arith in same)

-- a machine that goes on to what is watched for
pub record GoesUntil (rule : Rule) (old new : RunState) (goal made : ℕ) (watched : State → Bool)
    : Type 0 where
  pub context : new.context ≡ old.context
  pub there : new.configuration ≡ configuration_later rule old.context made old.configuration
  pub goes_on : (k : ℕ) → k < made →
      is_last old.context (state_later rule old.context k old.configuration) ≡ false
  pub unseen : (k : ℕ) → 0 < k → k < made →
      watched (state_later rule old.context k old.configuration) ≡ false
  pub few : made ≤ goal - number_of old.configuration.state
  pub stops : is_last new.context new.configuration.state ≡ false →
      new.configuration.state.count < goal →
      (0 < made) × (watched new.configuration.state ≡ true)

-- comes to the state of this number, and saw none of the states between that is watched for
pub record ComesUntil (rule : Rule) (old new : RunState) (number goal made : ℕ)
    (watched : State → Bool) : Type 0 where
  pub at : IsAtState rule new (number + made)
  pub within : number + made ≤ number_to rule old.context goal
  pub unseen : (k : ℕ) → number < k → k < number + made →
      watched (state_at rule old.context k) ≡ false
  pub stops : number + made < number_to rule old.context goal →
      (number < number + made)
      × (watched (state_at rule old.context (number + made)) ≡ true)

module _ (rule : Rule) (old new : RunState) (number goal made : ℕ) (watched : State → Bool)
    (holds_there : IsAtState rule old number) (on : number ≤ goal)
    (goes : GoesUntil rule old new goal made watched) where
  abbrev last : ℕ
  last = last_number rule old.context

  -- each state on the way, by its number
  way : (k : ℕ) → state_later rule old.context k old.configuration
      ≡ state_at rule old.context (number + k)
  way k =
      ap (λ (s : RunState). state_later rule old.context k s.configuration) holds_there.is
      ∙ ap (λ (m : Configuration). m.state) (later_at rule old.context number k)

  not_past : number + made ≤ last
  not_past = elim (cases_lt last (number + made)) as (λ _. number + made ≤ last) [
    | inl past ↦
        (let k : ℕ = last - number in
        let there : number + k ≡ last = omega (arith, holds_there.within) in
        let open_yet = goes.goes_on k (omega (arith, past, there)) in
        let wrong : is_last old.context (state_at rule old.context last) ≡ false =
        ap (λ n. is_last old.context (state_at rule old.context n)) (sym there)
        ∙ ap (is_last old.context) (sym (way k)) ∙ open_yet in
        let is = last_is rule old.context in
        absurd (cc (wrong, is)))
    | inr within ↦ within
  ]

  arrived : new ≡ run_state_at rule new.context (number + made)
  arrived =
      ap (λ m. record { context = new.context; configuration = m })
      (goes.there
      ∙ ap (λ (s : RunState). configuration_later rule old.context made s.configuration)
      holds_there.is
      ∙ later_at rule old.context number made
      ∙ ap (λ (w : RunContext). configuration_at rule w (number + made)) (sym goes.context))

  -- the state at which it is
  here : new.configuration.state ≡ state_at rule old.context (number + made)
  here =
      ap (λ (s : RunState). s.configuration.state) arrived
      ∙ ap (λ (w : RunContext). state_at rule w (number + made)) goes.context

  not_far : number + made ≤ goal
  not_far =
      let before : number_of old.configuration.state ≡ number =
      ap (λ (s : RunState). number_of s.configuration.state) holds_there.is
      ∙ number_at rule old.context number holds_there.within in
      let few = goes.few in
      omega (arith, before, few, on)

  seen : number + made < number_to rule old.context goal →
      (number < number + made) × (watched (state_at rule old.context (number + made)) ≡ true)
  seen short =
      let below : number + made < last = omega (arith, short) in
      let open_yet : is_last new.context new.configuration.state ≡ false =
      ap (λ (w : RunContext). is_last w new.configuration.state) goes.context
      ∙ ap (is_last old.context) here
      ∙ (last_found rule old.context).2 (number + made) below in
      let counted : new.configuration.state.count ≡ number + made =
      ap (λ (s : State). s.count) here ∙ open_at rule old.context (number + made) below in
      let stops = goes.stops open_yet (omega (arith, counted, short)) in
      (omega (arith, stops.0), ap watched (sym here) ∙ stops.1)

  pub goes-until : ComesUntil rule old new number goal made watched
  goes-until = record {
    at = record {
      is = arrived;
      within = subst (λ w. number + made ≤ last_number rule w) (sym goes.context) not_past;
      allowed = subst (λ (w : RunContext). are_allowed w.parameters.limits ≡ true)
          (sym goes.context) holds_there.allowed;
    };
    within = omega (arith, not_past, not_far);
    unseen = λ k later before.
        (let j : ℕ = k - number in
        let there : number + j ≡ k = omega (arith, later) in
        ap (λ n. watched (state_at rule old.context n)) (sym there)
        ∙ ap watched (sym (way j))
        ∙ goes.unseen j (omega (arith, there, later)) (omega (arith, there, before)));
    stops = seen;
  }
