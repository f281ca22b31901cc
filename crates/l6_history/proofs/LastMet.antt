-- The last state of a stretch to which one goes back.
use Rattle.std.proofs.Common.{◌≡◌, ℕ, ◌+◌, ◌-◌, ◌<◌, ◌≤◌, Bool, true, false, Option, Some, None, refl, sym, ap, ◌∙◌, arith, inl, inr}
use Rattle.std.specs.Prelude.{◌||◌, min}
use Rattle.std.proofs.Math.Bool.{or-false, or-true}
use Rattle.std.proofs.lemmas.Bool.{cases_lt, or_parts}
use Rattle.l6_store.specs.Rule.{Rule}
use Rattle.l6_steps.specs.Configuration.{state_at}
use Rattle.l6_steps.specs.State.{RunContext, State}
use Rattle.l6_machine.specs.Later.{sees}
use Rattle.l6_history.specs.inner.Seeking.{ComparesValues, Goal, IsLastIn, NoneIn, is_met_back, later_of}
use Rattle.l6_history.proofs.Sought.{last_more}

-- no number more passes
last_on : (test : ℕ → Bool) (begin number end : ℕ) (last : Option ℕ) → number ≤ end →
    IsLastIn test begin number last → NoneIn test number end → IsLastIn test begin end last
last_on test begin number end None on before none = λ k from below.
    elim (cases_lt k number) as (λ _. test k ≡ false) [
      | inl earlier ↦ before k from earlier
      | inr not_earlier ↦ none k not_earlier below
    ]
last_on test begin number end (Some n) on before none = record {
  begins = before.begins;
  ends = omega (arith, on, before.ends);
  passes = before.passes;
  none = λ k from below. elim (cases_lt k number) as (λ _. test k ≡ false) [
    | inl earlier ↦ before.none k from earlier
    | inr not_earlier ↦ none k not_earlier below
  ];
}

-- on the way to the end of a stretch that lies ahead one moves
pub moves : (goes_on : Bool) (from to end last : ℕ) → from < end → end ≤ last →
    (goes_on ≡ true → from < to) → (goes_on ≡ false → to < min end last → from < to) → from < to
moves true from to end last before within goes stops = goes refl
moves false from to end last before within goes stops = elim (cases_lt to (min end last)) [
  | inl below ↦ stops refl below
  | inr past ↦ omega (arith, past, before, within)
]

-- what a watch does not see that began at a state is none to which one goes from there
pub unseen : (rule : Rule) (context : RunContext) (goal : Goal) (stops changed : State → Bool) (from to : ℕ) →
    ((there : State) → stops there ≡ goal.at there) →
    ((there : State) → changed there ≡ goal.between (state_at rule context from) there) →
    ((k : ℕ) → from < k → k < to → sees stops changed (state_at rule context k) ≡ false) →
    (k : ℕ) → from < k → k < to → (goal.at (state_at rule context k)
    || goal.between (state_at rule context from) (state_at rule context k)) ≡ false
unseen rule context goal stops changed from to places changes none k later before =
    let there = state_at rule context k in
    ap (λ b. goal.at there || b) (sym (changes there))
    ∙ ap (λ b. b || changed there) (sym (places there))
    ∙ none k later before

-- a stretch from one state to another between which there is none to which one goes from the first
module _ (rule : Rule) (context : RunContext) (goal : Goal) (compares : ComparesValues goal)
    (begin from end : ℕ) (last : Option ℕ)
    (on : begin ≤ from) (further : from < end)
    (between : (k : ℕ) → from < k → k < end → (goal.at (state_at rule context k)
    || goal.between (state_at rule context from) (state_at rule context k)) ≡ false)
    (before : IsLastIn (is_met_back rule context goal) begin from last) where
  abbrev place : ℕ → Bool
  place k = goal.at (state_at rule context k)

  abbrev change : ℕ → ℕ → Bool
  change one other = goal.between (state_at rule context one) (state_at rule context other)

  -- nothing has changed before its end
  unchanged : (k : ℕ) → from ≤ k → k < end → change from k ≡ false
  unchanged k later within = elim (cases_lt from k) as (λ _. change from k ≡ false) [
    | inl past ↦ (or_parts (place k) (change from k) (between k past within)).1
    | inr not_past ↦
        (let here : k ≡ from = omega (arith, later, not_past) in
        ap (change from) here ∙ compares.unchanged (state_at rule context from))
  ]

  -- what changes from a state of it to the next one has changed from the first
  alike : (k : ℕ) → from ≤ k → k < end → change k (k + 1) ≡ change from (k + 1)
  alike k later within = compares.alike (state_at rule context from) (state_at rule context k)
      (state_at rule context (k + 1)) (unchanged k later within)

  stops : (k : ℕ) → from ≤ k → k < end →
      is_met_back rule context goal k ≡ (place k || change from (k + 1))
  unfolding is_met_back
  stops k later within = ap (λ b. place k || b) (alike k later within)

  -- where something has changed at its end, the state before that is the last one
  pub last_changed : change from end ≡ true →
      IsLastIn (is_met_back rule context goal) begin end (Some (end - 1))
  last_changed is =
      let next : end - 1 + 1 ≡ end = omega (arith, further) in
      record {
        begins = omega (arith, on, further);
        ends = omega (arith, further);
        passes = stops (end - 1) (omega (arith, further)) (omega (arith, further))
            ∙ ap (λ k. place (end - 1) || change from k) next
            ∙ ap (λ b. place (end - 1) || b) is
            ∙ or-true (place (end - 1));
        none = λ k later within. absurd (omega (arith, next, later, within));
      }

  -- else its first state is, if one goes there wherever one comes from
  pub last_unchanged : change from end ≡ false →
      IsLastIn (is_met_back rule context goal) begin end (later_of (place from) from last)
  last_unchanged is =
      let none : (k : ℕ) → from ≤ k → k < end → change from (k + 1) ≡ false = λ k later within.
      elim (cases_lt (k + 1) end) as (λ _. change from (k + 1) ≡ false) [
        | inl less ↦ unchanged (k + 1) (omega (arith, later)) less
        | inr not_less ↦
            (let same : k + 1 ≡ end = omega (arith, within, not_less) in ap (change from) same ∙ is)
      ] in
      let at_first : is_met_back rule context goal from ≡ place from =
      stops from (omega arith) further
      ∙ ap (λ b. place from || b) (none from (omega arith) further)
      ∙ or-false (place from) in
      last_on (is_met_back rule context goal) begin (from + 1) end (later_of (place from) from last)
      (omega (arith, further))
      (last_more (is_met_back rule context goal) begin from last (place from) on before at_first)
      (λ k later within.
      stops k (omega (arith, later)) within
      ∙ ap (λ b. place k || b) (none k (omega (arith, later)) within)
      ∙ or-false (place k)
      ∙ (or_parts (place k) (change from k) (between k (omega (arith, later)) within)).0)
