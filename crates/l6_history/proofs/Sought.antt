-- Where seeking ends.
use Rattle.std.proofs.Common.{◌≡◌, ℕ, zero, suc, ◌+◌, ◌-◌, ◌<◌, ◌≤◌, Bool, true, false, List, [], ◌∷◌, Option, Some, None, if◌then◌else◌, length, refl, sym, ap, ◌∙◌, subst, arith, inl, inr}
use Rattle.std.specs.Prelude.{◌==◌, ◌&&◌, ◌||◌, is_none, nat_lt, not, slice_index_or, unwrap_or}
use Rattle.std.specs.List.{list_any}
use Rattle.std.proofs.Math.Bool.{and-false}
use Rattle.std.proofs.lemmas.Bool.{and_parts, cases_lt, eqb-true, le-ltb, lt-ltb, not-true, or_parts}
use Rattle.l6_store.proofs.Least.{Answers, answers_alone, least_answers}
use Rattle.l6_store.specs.Least.{least}
use Rattle.l6_store.specs.Rule.{Rule}
use Rattle.l6_steps.specs.Configuration.{state_at}
use Rattle.l6_steps.specs.Numbering.{last_number}
use Rattle.l6_steps.specs.State.{RunContext, State}
use Rattle.l6_prog.specs.declared.condition.Test.{Test}
use Rattle.l6_history.specs.Stop.{Stop, changes_between, meets, stops_at, stops_nowhere}
use Rattle.l6_history.specs.Seeking.{greatest, next_stop, previous_stop, stops_back, stops_forward}
use Rattle.l6_history.specs.declared.seeking.Direction.{Direction}
use Rattle.l6_history.specs.declared.seeking.Direction.TheVariants.{Forward, Back}
use Rattle.l6_history.specs.declared.watched.Watched.{Watched}
use Rattle.l6_history.specs.inner.Seeking.{ComesTo, ComparesValues, Goal, IsLast, IsLastIn, NoneAfter, NoneIn, goal_of, is_met_back, is_met_forward, later_of, met_to, next_met, previous_met, stop_to}

-- ---- forward
pub none_yet : (test : ℕ → Bool) (from : ℕ) → NoneAfter test from from
none_yet test from =
    record { on = omega arith; none = λ k later within. absurd (omega (arith, later, within)) }

pub none_more : (test : ℕ → Bool) (from number : ℕ) → NoneAfter test from number →
    test (number + 1) ≡ false → NoneAfter test from (number + 1)
none_more test from number passed other = record {
  on = omega (arith, passed.on);
  none = λ k later within. elim (cases_lt number k) as (λ _. test k ≡ false) [
    | inl past ↦ (let same : k ≡ number + 1 = omega (arith, past, within) in ap test same ∙ other)
    | inr up_to ↦ passed.none k later up_to
  ];
}

none_at_least : (test : ℕ → Bool) (from k : ℕ) → (from < k → test k ≡ false) →
    (nat_lt from k && test k) ≡ false
none_at_least test from k none = elim (cases_lt from k) as (λ _. (nat_lt from k && test k) ≡ false) [
  | inl later ↦ ap (λ b. nat_lt from k && b) (none later) ∙ and-false (nat_lt from k)
  | inr earlier ↦ ap (λ b. b && test k) (le-ltb from k earlier)
]

pub next_found : (rule : Rule) (context : RunContext) (goal : Goal) (from number : ℕ) →
    NoneAfter (is_met_forward rule context goal) from number → number < last_number rule context →
    is_met_forward rule context goal (number + 1) ≡ true →
    next_met rule context goal from ≡ number + 1
unfolding next_met Answers
next_found rule context goal from number passed below is =
    let last = last_number rule context in
    let met = is_met_forward rule context goal in
    let test : ℕ → Bool = λ n. nat_lt from n && met n in
    let later = lt-ltb from (number + 1) (omega (arith, passed.on)) in
    let found : least (suc last) test ≡ Some (number + 1) =
    answers_alone (suc last) test (least (suc last) test) (Some (number + 1))
    (least_answers (suc last) test) (
      omega (arith, below),
      ap (λ b. b && met (number + 1)) later ∙ is,
      λ k before. none_at_least met from k
          (λ following. passed.none k following (omega (arith, before))),
    ) in
    ap (λ answer. unwrap_or answer last) found

pub next_ends : (rule : Rule) (context : RunContext) (goal : Goal) (from number : ℕ) →
    NoneAfter (is_met_forward rule context goal) from number → last_number rule context ≤ number →
    next_met rule context goal from ≡ last_number rule context
unfolding next_met Answers
next_ends rule context goal from number passed past =
    let last = last_number rule context in
    let met = is_met_forward rule context goal in
    let test : ℕ → Bool = λ n. nat_lt from n && met n in
    let found : least (suc last) test ≡ None =
    answers_alone (suc last) test (least (suc last) test) None (least_answers (suc last) test)
    (λ k within. none_at_least met from k
    (λ following. passed.none k following (omega (arith, within, past)))) in
    ap (λ answer. unwrap_or answer last) found

-- ---- back
pub last_more : (test : ℕ → Bool) (begin end : ℕ) (last : Option ℕ) (passes : Bool) → begin ≤ end →
    IsLastIn test begin end last → test end ≡ passes →
    IsLastIn test begin (end + 1) (later_of passes end last)
last_more test begin end last true on before is = record {
  begins = on;
  ends = omega arith;
  passes = is;
  none = λ k from below. absurd (omega (arith, from, below));
}
last_more test begin end None false on before is = λ k from below.
    elim (cases_lt k end) as (λ _. test k ≡ false) [
      | inl earlier ↦ before k from earlier
      | inr not_earlier ↦ (let same : k ≡ end = omega (arith, not_earlier, below) in ap test same ∙ is)
    ]
last_more test begin end (Some n) false on before is = record {
  begins = before.begins;
  ends = omega (arith, before.ends);
  passes = before.passes;
  none = λ k from below. elim (cases_lt k end) as (λ _. test k ≡ false) [
    | inl earlier ↦ before.none k from earlier
    | inr not_earlier ↦ (let same : k ≡ end = omega (arith, not_earlier, below) in ap test same ∙ is)
  ];
}

pub greatest_found : (bound n : ℕ) (test : ℕ → Bool) → n < bound → test n ≡ true →
    NoneIn test (n + 1) bound → greatest bound test ≡ Some n
unfolding greatest
greatest_found zero n test below is none = absurd (omega (arith, below))
greatest_found (suc bound) n test below is none =
    elim (cases_lt n bound) as (λ _. greatest (suc bound) test ≡ Some n) [
      | inl less ↦
          ap (λ b. if b then Some bound else greatest bound test)
          (none bound (omega (arith, less)) (omega arith))
          ∙ greatest_found bound n test less is (λ k from under. none k from (omega (arith, under)))
      | inr not_less ↦
          (let same : bound ≡ n = omega (arith, not_less, below) in
          ap (λ b. if b then Some bound else greatest bound test) (ap test same ∙ is)
          ∙ ap (λ (k : ℕ). Some k) same)
    ]

pub greatest_none : (bound : ℕ) (test : ℕ → Bool) → NoneIn test 0 bound → greatest bound test ≡ None
unfolding greatest
greatest_none zero test none = refl
greatest_none (suc bound) test none =
    ap (λ b. if b then Some bound else greatest bound test) (none bound (omega arith) (omega arith))
    ∙ greatest_none bound test (λ k from under. none k from (omega (arith, under)))

-- the last one of a stretch, past which there is none, is the greatest of all
pub last_farther : (test : ℕ → Bool) (begin end number n : ℕ) → IsLast test begin end n →
    end ≤ number → NoneIn test end number → IsLast test 0 number n
last_farther test begin end number n last on none = record {
  begins = omega arith;
  ends = omega (arith, last.ends, on);
  passes = last.passes;
  none = λ k from below. elim (cases_lt k end) as (λ _. test k ≡ false) [
    | inl earlier ↦ last.none k from earlier
    | inr not_earlier ↦ none k not_earlier below
  ];
}

-- the last number of all that pass is the greatest
pub greatest_is : (test : ℕ → Bool) (bound : ℕ) (last : Option ℕ) → IsLastIn test 0 bound last →
    greatest bound test ≡ last
greatest_is test bound None none = greatest_none bound test none
greatest_is test bound (Some n) last = greatest_found bound n test last.ends last.passes last.none

-- one goes back to it, or to the start
pub met_back : (rule : Rule) (context : RunContext) (goal : Goal) (here : ℕ) (last : Option ℕ) →
    IsLastIn (is_met_back rule context goal) 0 here last →
    previous_met rule context goal here ≡ unwrap_or last 0
unfolding previous_met
met_back rule context goal here last is =
    ap (λ answer. unwrap_or answer 0) (greatest_is (is_met_back rule context goal) here last is)

pub last_within : (test : ℕ → Bool) (bound : ℕ) (last : Option ℕ) → IsLastIn test 0 bound last →
    unwrap_or last 0 ≤ bound
last_within test bound None none = omega arith
last_within test bound (Some n) last = omega (arith, last.ends)

pub none_nearer : (test : ℕ → Bool) (begin end number : ℕ) → NoneIn test begin end →
    NoneIn test end number → NoneIn test begin number
none_nearer test begin end number first rest k from below =
    elim (cases_lt k end) as (λ _. test k ≡ false) [
      | inl earlier ↦ first k from earlier
      | inr not_earlier ↦ rest k not_earlier below
    ]

-- ---- to what is watched for
-- what one goes to, coming from the state where one began
abbrev pub is_seen : Rule → RunContext → Goal → ℕ → ℕ → Bool
is_seen rule context goal from n =
    goal.at (state_at rule context n)
    || goal.between (state_at rule context from) (state_at rule context n)

module _ (rule : Rule) (context : RunContext) (goal : Goal) (compares : ComparesValues goal)
    (from number : ℕ)
    (comes : ComesTo (is_seen rule context goal from) from (last_number rule context) number) where
  abbrev change : ℕ → ℕ → Bool
  change one other = goal.between (state_at rule context one) (state_at rule context other)

  -- up to there nothing ever changes
  same : (n : ℕ) → from ≤ n → n < number → change from n ≡ false
  same n on before = elim (cases_lt from n) as (λ _. change from n ≡ false) [
    | inl later ↦
        (or_parts (goal.at (state_at rule context n)) (change from n) (comes.none n later before)).1
    | inr not_later ↦
        (let here : n ≡ from = omega (arith, on, not_later) in
        ap (change from) here ∙ compares.unchanged (state_at rule context from))
  ]

  -- so one goes to what is seen
  stops : (n : ℕ) → from ≤ n → n < number →
      is_met_forward rule context goal (n + 1) ≡ is_seen rule context goal from (n + 1)
  unfolding is_met_forward
  stops n on before =
      let next = state_at rule context (n + 1) in
      let here : n + 1 - 1 ≡ n = omega arith in
      ap (λ k. goal.at next || goal.between (state_at rule context k) next) here
      ∙ ap (λ b. goal.at next || b)
      (compares.alike (state_at rule context from) (state_at rule context n) next (same n on before))

  passed : (end : ℕ) → from ≤ end → end < number →
      NoneAfter (is_met_forward rule context goal) from end
  passed end on before = record {
    on = on;
    none = λ k later within.
        (let back : k - 1 + 1 ≡ k = omega (arith, later) in
        ap (is_met_forward rule context goal) (sym back)
        ∙ stops (k - 1) (omega (arith, later)) (omega (arith, later, within, before))
        ∙ ap (is_seen rule context goal from) back
        ∙ comes.none k later (omega (arith, within, before)));
  }

  -- the state before
  back : ℕ
  back = number - 1

  found : from < number → is_met_forward rule context goal number ≡ true →
      number ≡ next_met rule context goal from
  unfolding back
  found moved is =
      let next : back + 1 ≡ number = omega (arith, moved) in
      let within = comes.within in
      sym (next_found rule context goal from back
      (passed back (omega (arith, moved)) (omega (arith, moved)))
      (omega (arith, moved, within)) (ap (is_met_forward rule context goal) next ∙ is)
      ∙ next)

  ended : from < number → number ≡ last_number rule context →
      is_met_forward rule context goal number ≡ false → number ≡ next_met rule context goal from
  unfolding back
  ended moved last is =
      let next : back + 1 ≡ number = omega (arith, moved) in
      last
      ∙ sym (next_ends rule context goal from number
      (subst (NoneAfter (is_met_forward rule context goal) from) next
      (none_more (is_met_forward rule context goal) from back
      (passed back (omega (arith, moved)) (omega (arith, moved)))
      (ap (is_met_forward rule context goal) next ∙ is)))
      (omega (arith, last)))

  at_last : (is_stop : Bool) → is_met_forward rule context goal number ≡ is_stop → from < number →
      number ≡ last_number rule context → number ≡ next_met rule context goal from
  at_last true is moved last = found moved is
  at_last false is moved last = ended moved last is

  -- the next state that is seen is the next one to which one goes
  pub next-seen : number ≡ next_met rule context goal from
  unfolding back
  next-seen = elim (cases_lt number (last_number rule context))
      as (λ _. number ≡ next_met rule context goal from) [
        | inl below ↦
            (let seen = comes.stops below in
            let moved = seen.0 in
            let next : back + 1 ≡ number = omega (arith, moved) in
            found moved (ap (is_met_forward rule context goal) (sym next)
            ∙ stops back (omega (arith, moved)) (omega (arith, moved))
            ∙ ap (is_seen rule context goal from) next ∙ seen.1))
        | inr past ↦
            (let within = comes.within in
            let last : number ≡ last_number rule context = omega (arith, within, past) in
            elim (cases_lt from number) as (λ _. number ≡ next_met rule context goal from) [
              | inl moved ↦ at_last (is_met_forward rule context goal number) refl moved last
              | inr stayed ↦
                  (let on = comes.on in
                  let here : from ≡ number = omega (arith, on, stayed) in
                  last
                  ∙ sym (next_ends rule context goal from from
                  (none_yet (is_met_forward rule context goal) from) (omega (arith, here, last))))
            ])
      ]

-- a stretch more in which none passes
pub none_on : (test : ℕ → Bool) (from number next : ℕ) → NoneAfter test from number →
    number < next → ((k : ℕ) → number < k → k < next → test k ≡ false) → test next ≡ false →
    NoneAfter test from next
none_on test from number next passed further between last =
    let on = passed.on in
    record {
      on = omega (arith, on, further);
      none = λ k later within. elim (cases_lt number k) as (λ _. test k ≡ false) [
        | inl past ↦ elim (cases_lt k next) as (λ _. test k ≡ false) [
          | inl before ↦ between k past before
          | inr not_before ↦
              (let same : k ≡ next = omega (arith, not_before, within) in ap test same ∙ last)
        ]
        | inr up_to ↦ passed.none k later up_to
      ];
    }

-- and one at whose end one passes, or the last number is
pub comes_on : (test : ℕ → Bool) (from number last next : ℕ) → NoneAfter test from number →
    number ≤ next → next ≤ last → ((k : ℕ) → number < k → k < next → test k ≡ false) →
    (next < last → (number < next) × (test next ≡ true)) → ComesTo test from last next
comes_on test from number last next passed further within between stops =
    let on = passed.on in
    record {
      on = omega (arith, on, further);
      within = within;
      none = λ k later before. elim (cases_lt number k) as (λ _. test k ≡ false) [
        | inl past ↦ between k past before
        | inr up_to ↦ passed.none k later up_to
      ];
      stops = λ below. (let seen = stops below in (omega (arith, on, seen.0), seen.1));
    }

-- what is seen by another test that says the same is seen
pub comes_alike : (one other : ℕ → Bool) (from last number : ℕ) → ComesTo one from last number →
    ((n : ℕ) → other n ≡ one n) → ComesTo other from last number
comes_alike one other from last number comes alike = record {
  on = comes.on;
  within = comes.within;
  none = λ k later before. alike k ∙ comes.none k later before;
  stops = λ below.
      (let seen = comes.stops below in (seen.0, alike number ∙ seen.1));
}

-- no statement has a breakpoint
pub none_breakpoint : (breakpoints : List Bool) (statement : ℕ) →
    list_any (λ breakpoint. breakpoint) breakpoints ≡ false →
    slice_index_or breakpoints statement false ≡ false
none_breakpoint [] statement none = refl
none_breakpoint (true ∷ breakpoints) statement none = cc
none_breakpoint (false ∷ breakpoints) zero none = refl
none_breakpoint (false ∷ breakpoints) (suc statement) none =
    none_breakpoint breakpoints statement none

-- ---- where one stops
pub stops_next : (rule : Rule) (context : RunContext) (stop : Stop) (from : ℕ) →
    next_met rule context (goal_of stop) from ≡ next_stop rule context stop from
unfolding next_met next_stop is_met_forward stops_forward
stops_next rule context stop from = refl

pub stops_previous : (rule : Rule) (context : RunContext) (stop : Stop) (from : ℕ) →
    previous_met rule context (goal_of stop) from ≡ previous_stop rule context stop from
unfolding previous_met previous_stop is_met_back stops_back
stops_previous rule context stop from = refl

pub stops_to : (rule : Rule) (context : RunContext) (stop : Stop) (direction : Direction) (from : ℕ) →
    met_to rule context (goal_of stop) direction from ≡ stop_to rule context stop direction from
stops_to rule context stop Forward from = stops_next rule context stop from
stops_to rule context stop Back from = stops_previous rule context stop from

-- ---- nowhere
-- where there is nothing at which one would stop, one does not stop
abbrev made : List Bool → List (Option Test) → Bool → List Watched → Option ℕ → Stop
made breakpoints tests each watched depth =
    record { breakpoints = breakpoints; tests = tests; each = each; watched = watched; depth = depth }

nowhere_parts : (breakpoints : List Bool) (tests : List (Option Test)) (each : Bool)
    (watched : List Watched) (depth : Option ℕ) (state before after : State) →
    stops_nowhere (made breakpoints tests each watched depth) ≡ true →
    (stops_at (made breakpoints tests each watched depth) state
    || changes_between (made breakpoints tests each watched depth) before after) ≡ false
nowhere_parts breakpoints tests false [] None state before after is =
    let some = list_any (λ breakpoint. breakpoint) breakpoints in
    let none = not-true some
    (and_parts (not some) true
    (and_parts (not some && true) true is).0).0 in
    ap (λ b. (((state.at.action == 0 && b) && meets tests state) || false) || false)
    (none_breakpoint breakpoints state.at.statement none)
    ∙ ap (λ b. ((b && meets tests state) || false) || false) (and-false (state.at.action == 0))
nowhere_parts breakpoints tests true [] depth state before after is =
    let none = not (list_any (λ breakpoint. breakpoint) breakpoints) && true in
    let wrong : false ≡ true = (and_parts none false is).1 in
    absurd (cc)
nowhere_parts breakpoints tests false [] (Some depth) state before after is =
    let none = not (list_any (λ breakpoint. breakpoint) breakpoints) && true in
    let wrong : false ≡ true = (and_parts none false is).1 in
    absurd (cc)
nowhere_parts breakpoints tests each (chain ∷ chains) depth state before after is =
    let some = not (list_any (λ breakpoint. breakpoint) breakpoints) in
    let none = length (chain ∷ chains) == 0 in
    let wrong : length (chain ∷ chains) ≡ 0 =
    eqb-true (length (chain ∷ chains)) 0
    (and_parts some none (and_parts (some && none) (not each && is_none depth) is).0).1 in
    absurd (omega (arith, wrong))

nowhere_at : (stop : Stop) (state before after : State) → stops_nowhere stop ≡ true →
    (stops_at stop state || changes_between stop before after) ≡ false
nowhere_at stop state before after is =
    nowhere_parts stop.breakpoints stop.tests stop.each stop.watched stop.depth state before after is

pub nowhere_forward : (rule : Rule) (context : RunContext) (stop : Stop) (from : ℕ) →
    stops_nowhere stop ≡ true → next_stop rule context stop from ≡ last_number rule context
unfolding next_stop stops_forward Answers
nowhere_forward rule context stop from is =
    let last = last_number rule context in
    let test : ℕ → Bool = λ n. nat_lt from n && stops_forward rule context stop n in
    let found : least (suc last) test ≡ None =
    answers_alone (suc last) test (least (suc last) test) None (least_answers (suc last) test)
    (λ k within. ap (λ b. nat_lt from k && b)
    (nowhere_at stop (state_at rule context k) (state_at rule context (k - 1))
    (state_at rule context k) is) ∙ and-false (nat_lt from k)) in
    ap (λ answer. unwrap_or answer last) found

pub nowhere_back : (rule : Rule) (context : RunContext) (stop : Stop) (from : ℕ) →
    stops_nowhere stop ≡ true → previous_stop rule context stop from ≡ 0
unfolding previous_stop stops_back
nowhere_back rule context stop from is =
    ap (λ answer. unwrap_or answer 0)
    (greatest_none from (stops_back rule context stop)
    (λ k from' below. nowhere_at stop (state_at rule context k) (state_at rule context k)
    (state_at rule context (k + 1)) is))
