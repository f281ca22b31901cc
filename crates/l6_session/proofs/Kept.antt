-- What is true of each session to which commands lead.
use Rattle.std.proofs.Common.{◌≡◌, ℕ, zero, suc, ◌+◌, ◌-◌, ◌≤◌, Bool, true, false, List, [], ◌∷◌, ◌++◌, Option, Some, None, Ok, Err, if◌then◌else◌, length, refl, sym, ◌∙◌, subst, arith, inl, inr}
use Rattle.std.specs.Prelude.{◌==◌, ◌&&◌, min, nat_lt, replicate, slice_index_or, slice_set, unwrap_or, Result, ⊤}
use Rattle.std.specs.List.{remove}
use Rattle.std.proofs.Math.Nat.{min-le_right}
use Rattle.std.proofs.lemmas.Bool.{cases_lt, lt-ltb, le-ltb}
use Rattle.std.proofs.lemmas.List.{length-append, length-replicate, length-set}
use Rattle.std.proofs.lemmas.List.Edits.{length-remove}
use Rattle.l6_prog.specs.declared.condition.Test.{Test}
use Rattle.l6_store.specs.Least.{least, or_else}
use Rattle.l6_store.specs.Rule.{Rule}
use Rattle.l6_steps.specs.Configuration.{state_at}
use Rattle.l6_steps.specs.Numbering.{last_number}
use Rattle.l6_steps.specs.Locus.{read}
use Rattle.l6_steps.specs.State.{RunContext}
use Rattle.l6_steps.specs.declared.trap.Trap.{Trap}
use Rattle.l6_history.specs.declared.watched.Watched.{Watched}
use Rattle.l6_history.specs.declared.watched.Watched.TheVariants.{Word as WatchedWord}
use Rattle.l6_history.specs.Numerals.{most_watched}
use Rattle.l6_history.specs.Seeking.{greatest, next_stop, previous_stop, stops_back, stops_forward}
use Rattle.l6_history.specs.Stop.{Stop, is_at_breakpoint, meets}
use Rattle.l6_session.specs.Numerals.{most_displayed, most_repeats}
use Rattle.l6_session.specs.Saved.{after_all}
use Rattle.l6_session.specs.SessionState.{SessionState, after, at_statements, back, back_over, back_over_statement, back_statement, back_to, changed, come_to, depth_at, first_session_state, moved, number_in, number_of_watched, on, on_statement, on_to, on_until, one_less, one_more, over, over_statement, repeated, to_depth, to_statement, with_breakpoint, word_watched}
use Rattle.l6_session.specs.declared.command.Command.{Command}
use Rattle.l6_session.specs.declared.command.Command.TheVariants as command
use Rattle.l6_session.specs.declared.command.Move.{Move}
use Rattle.l6_session.specs.declared.command.Move.TheVariants.{Step, Back, StepStatement, BackStatement, Goto, End, Next, ReverseNext, NextStatement, ReverseNextStatement, Finish, ReverseFinish, Continue, ReverseContinue, Run, Until, UntilNext}
use Rattle.l6_session.specs.declared.command.Setting.{Setting}
use Rattle.l6_session.specs.declared.command.Setting.TheVariants.{Break, BreakIf, TemporaryBreak, Condition, Delete, DeleteAll, Watch, Unwatch, UnwatchThis, Display, Undisplay, UndisplayChain}

-- ---- lists
-- as many statements may have breakpoints as temporary ones, and the temporary ones are breakpoints
abbrev pub Covered : List Bool → List Bool → Type 0
Covered [] [] = ⊤
Covered (is ∷ others) (temporary ∷ temporaries) =
    (temporary ≡ true → is ≡ true) × Covered others temporaries
Covered others temporaries = ⊥

-- as many statements may have tests as breakpoints, and those with tests have breakpoints
abbrev pub Backed : List Bool → List (Option Test) → Type 0
Backed [] [] = ⊤
Backed (is ∷ others) (None ∷ tests) = Backed others tests
Backed (is ∷ others) (Some test ∷ tests) = (is ≡ true) × Backed others tests
Backed others tests = ⊥

-- a test may be set at a breakpoint alone
abbrev pub MaySet : Bool → Option Test → Type 0
MaySet is None = ⊤
MaySet is (Some test) = is ≡ true

backed_set : (is : List Bool) (tests : List (Option Test)) (s : ℕ) (i : Bool) (t : Option Test) →
    Backed is tests → MaySet i t → Backed (slice_set is s i) (slice_set tests s t)
backed_set [] [] s i t backed may = tt
backed_set [] (u ∷ tests) s i t backed may = absurd backed
backed_set (j ∷ is) [] s i t backed may = absurd backed
backed_set (j ∷ is) (None ∷ tests) zero i None backed may = backed
backed_set (j ∷ is) (None ∷ tests) zero i (Some t) backed may = (may, backed)
backed_set (j ∷ is) (Some u ∷ tests) zero i None backed may = backed.1
backed_set (j ∷ is) (Some u ∷ tests) zero i (Some t) backed may = (may, backed.1)
backed_set (j ∷ is) (None ∷ tests) (suc s) i t backed may = backed_set is tests s i t backed may
backed_set (j ∷ is) (Some u ∷ tests) (suc s) i t backed may =
    (backed.0, backed_set is tests s i t backed.1 may)

-- a test at a statement that has a breakpoint
backed_test : (is : List Bool) (tests : List (Option Test)) (s : ℕ) (t : Option Test) → Backed is tests →
    slice_index_or is s false ≡ true → Backed is (slice_set tests s t)
backed_test [] [] s t backed there = tt
backed_test [] (u ∷ tests) s t backed there = absurd backed
backed_test (j ∷ is) [] s t backed there = absurd backed
backed_test (j ∷ is) (None ∷ tests) zero None backed there = backed
backed_test (j ∷ is) (None ∷ tests) zero (Some t) backed there = (there, backed)
backed_test (j ∷ is) (Some u ∷ tests) zero None backed there = backed.1
backed_test (j ∷ is) (Some u ∷ tests) zero (Some t) backed there = (there, backed.1)
backed_test (j ∷ is) (None ∷ tests) (suc s) t backed there = backed_test is tests s t backed there
backed_test (j ∷ is) (Some u ∷ tests) (suc s) t backed there =
    (backed.0, backed_test is tests s t backed.1 there)

pub backed_lengths : (is : List Bool) (tests : List (Option Test)) → Backed is tests →
    length is ≡ length tests
backed_lengths [] [] backed = refl
backed_lengths [] (t ∷ tests) backed = absurd backed
backed_lengths (i ∷ is) [] backed = absurd backed
backed_lengths (i ∷ is) (None ∷ tests) backed = omega (arith, backed_lengths is tests backed)
backed_lengths (i ∷ is) (Some t ∷ tests) backed = omega (arith, backed_lengths is tests backed.1)

backed_none : (n : ℕ) → Backed (replicate n false) (replicate n None)
backed_none zero = tt
backed_none (suc n) = backed_none n

covered_set : (is temporary : List Bool) (s : ℕ) (i t : Bool) → Covered is temporary → (t ≡ true → i ≡ true) →
    Covered (slice_set is s i) (slice_set temporary s t)
covered_set [] [] s i t covered leads = tt
covered_set [] (u ∷ temporary) s i t covered leads = absurd covered
covered_set (j ∷ is) [] s i t covered leads = absurd covered
covered_set (j ∷ is) (u ∷ temporary) zero i t covered leads = (leads, covered.1)
covered_set (j ∷ is) (u ∷ temporary) (suc s) i t covered leads =
    (covered.0, covered_set is temporary s i t covered.1 leads)

pub covered_none : (n : ℕ) → Covered (replicate n false) (replicate n false)
covered_none zero = tt
covered_none (suc n) = ((λ is. is), covered_none n)

pub covered_lengths : (is temporary : List Bool) → Covered is temporary → length is ≡ length temporary
covered_lengths [] [] covered = refl
covered_lengths [] (t ∷ temporary) covered = absurd covered
covered_lengths (i ∷ is) [] covered = absurd covered
covered_lengths (i ∷ is) (t ∷ temporary) covered = omega (arith, covered_lengths is temporary covered.1)

least_within : (bound last : ℕ) (test : ℕ → Bool) → bound ≤ suc last →
    unwrap_or (least bound test) last ≤ last
unfolding least
least_within zero last test within = omega arith
least_within (suc bound) last test within =
    chosen (least bound test) (test bound) (least_within bound last test (omega (arith, within)))
  where
    chosen : (found : Option ℕ) (b : Bool) → unwrap_or found last ≤ last →
        unwrap_or (or_else found (if b then Some bound else None)) last ≤ last
    chosen (Some n) b below = below
    chosen None true below = omega (arith, within)
    chosen None false below = below

greatest_below : (bound : ℕ) (test : ℕ → Bool) → unwrap_or (greatest bound test) 0 ≤ bound
unfolding greatest
greatest_below zero test = omega arith
greatest_below (suc bound) test = chosen (test bound) bound (greatest bound test) (greatest_below bound test)
  where
    chosen : (b : Bool) (bound : ℕ) (other : Option ℕ) → unwrap_or other 0 ≤ bound →
        unwrap_or (if b then Some bound else other) 0 ≤ suc bound
    chosen true bound other within = omega arith
    chosen false bound other within = omega (arith, within)

more_few : {A : Type 0} (most : ℕ) (chains : List A) (chain : A) → length chains ≤ most →
    length (one_more most chains chain) ≤ most
more_few most chains chain few = elim (cases_lt (length chains) most) as (λ _. length (one_more most chains chain) ≤ most) [
  | inl room ↦ subst (λ (b : Bool). length (if b then chains ++ chain ∷ [] else chains) ≤ most)
      (sym (lt-ltb (length chains) most room)) (omega (arith, room, length-append chains (chain ∷ [])))
  | inr full ↦ subst (λ (b : Bool). length (if b then chains ++ chain ∷ [] else chains) ≤ most)
      (sym (le-ltb (length chains) most full)) few
]

less_few : {A : Type 0} (most : ℕ) (chains : List A) (number : ℕ) → length chains ≤ most →
    length (one_less chains number) ≤ most
less_few most chains number few = elim (cases_lt (number - 1) (length chains)) as (λ _. length (one_less chains number) ≤ most) [
  | inl there ↦ subst (λ (b : Bool). length (if b then remove chains (number - 1) else chains) ≤ most)
      (sym (lt-ltb (number - 1) (length chains) there))
      (omega (arith, few, length-remove chains (number - 1) there))
  | inr none ↦ subst (λ (b : Bool). length (if b then remove chains (number - 1) else chains) ≤ most)
      (sym (le-ltb (number - 1) (length chains) none)) few
]

-- ---- sessions
pub record IsKept (rule : Rule) (context : RunContext) (state : SessionState) : Type 0 where
  pub covered : Covered state.stop.breakpoints state.temporary
  pub size : length state.temporary ≡ length context.program
  pub within : state.number ≤ last_number rule context
  pub backed : Backed state.stop.breakpoints state.stop.tests
  pub each : state.stop.each ≡ false
  pub depth : state.stop.depth ≡ None
  pub watched : length state.stop.watched ≤ most_watched
  pub displayed : length state.displayed ≤ most_displayed

module _ (rule : Rule) (context : RunContext) where
  abbrev Kept : SessionState → Type 0
  Kept = IsKept rule context

  kept-with : (s : ℕ) (i t : Bool) (test : Option Test) (old : SessionState) → Kept old →
      (t ≡ true → i ≡ true) → MaySet i test → Kept (with_breakpoint s i t test old)
  kept-with s i t test old kept leads may = record {
    backed = backed_set old.stop.breakpoints old.stop.tests s i test kept.backed may;
    each = kept.each;
    covered = covered_set old.stop.breakpoints old.temporary s i t kept.covered leads;
    size = length-set old.temporary s t ∙ kept.size;
    within = kept.within;
    depth = kept.depth;
    watched = kept.watched;
    displayed = kept.displayed;
  }

  kept-at : (old : SessionState) (number : ℕ) → Kept old → number ≤ last_number rule context → Kept (record old { number = number })
  kept-at old number kept within = record {
    covered = kept.covered;
    backed = kept.backed;
    each = kept.each;
    size = kept.size;
    within = within;
    depth = kept.depth;
    watched = kept.watched;
    displayed = kept.displayed;
  }

  kept-come : (old : SessionState) (number : ℕ) → Kept old → number ≤ last_number rule context → Kept (come_to rule context old number)
  kept-come old number kept within =
      chosen (is_at_breakpoint old.temporary (state_at rule context number)
      && meets old.stop.tests (state_at rule context number))
    where
      chosen : (b : Bool) → Kept (if b then with_breakpoint (state_at rule context number).at.statement false false None (record old { number = number }) else record old { number = number })
      chosen true = kept-with (state_at rule context number).at.statement false false None (record old { number = number })
          (kept-at old number kept within) (λ is. is) tt
      chosen false = kept-at old number kept within

  kept-times : (n : ℕ) (leads : SessionState → SessionState) (old : SessionState) → Kept old →
      ((state : SessionState) → Kept state → Kept (leads state)) → Kept (repeated n leads old)
  unfolding repeated
  kept-times zero leads old kept keeps = kept
  kept-times (suc n) leads old kept keeps = keeps (repeated n leads old) (kept-times n leads old kept keeps)

  kept-watched : (old : SessionState) (watched : List Watched) → Kept old → length watched ≤ most_watched →
      Kept (record old { stop = record old.stop { watched = watched } })
  kept-watched old watched kept few = record {
    covered = kept.covered;
    backed = kept.backed;
    each = kept.each;
    size = kept.size;
    within = kept.within;
    depth = kept.depth;
    watched = few;
    displayed = kept.displayed;
  }

  kept-displayed : (old : SessionState) (chains : List (List ℕ)) → Kept old → length chains ≤ most_displayed →
      Kept (record old { displayed = chains })
  kept-displayed old chains kept few = record {
    covered = kept.covered;
    backed = kept.backed;
    each = kept.each;
    size = kept.size;
    within = kept.within;
    depth = kept.depth;
    watched = kept.watched;
    displayed = few;
  }

  pub kept-first : Kept (first_session_state context)
  kept-first = record {
    covered = covered_none (length context.program);
    backed = backed_none (length context.program);
    each = refl;
    size = length-replicate (length context.program) false;
    within = omega arith;
    depth = refl;
    watched = omega arith;
    displayed = omega arith;
  }

  next-within : (stop : Stop) (number : ℕ) → next_stop rule context stop number ≤ last_number rule context
  unfolding next_stop
  next-within stop number =
      least_within (suc (last_number rule context)) (last_number rule context)
      (λ n. nat_lt number n && stops_forward rule context stop n) (omega arith)

  previous-within : (stop : Stop) (number : ℕ) → number ≤ last_number rule context →
      previous_stop rule context stop number ≤ last_number rule context
  unfolding previous_stop
  previous-within stop number within =
      omega (arith, within, greatest_below number (stops_back rule context stop))

  kept-on-to : (old : SessionState) (depth : ℕ) → Kept old → Kept (on_to rule context old depth)
  kept-on-to old depth kept =
      kept-come old (next_stop rule context (to_depth depth old.stop) old.number) kept
      (next-within (to_depth depth old.stop) old.number)

  kept-back-to : (old : SessionState) (depth : ℕ) → Kept old → Kept (back_to rule context old depth)
  kept-back-to old depth kept =
      kept-come old (previous_stop rule context (to_depth depth old.stop) old.number) kept
      (previous-within (to_depth depth old.stop) old.number kept.within)

  kept-on : (old : SessionState) → Kept old → Kept (on rule context old)
  kept-on old kept =
      kept-come old (next_stop rule context old.stop old.number) kept (next-within old.stop old.number)

  kept-back : (old : SessionState) → Kept old → Kept (back rule context old)
  kept-back old kept =
      kept-come old (previous_stop rule context old.stop old.number) kept
      (previous-within old.stop old.number kept.within)

  kept-until : (old : SessionState) (statement : ℕ) → Kept old → Kept (on_until rule context old statement)
  kept-until old statement kept =
      let stop = record old.stop {
        breakpoints = slice_set old.stop.breakpoints statement true;
        tests = slice_set old.stop.tests statement None;
      } in
      kept-come old (next_stop rule context stop old.number) kept (next-within stop old.number)

  kept-if : (b : Bool) (one other : SessionState) → Kept one → Kept other → Kept (if b then one else other)
  kept-if true one other kept likewise = kept
  kept-if false one other kept likewise = likewise

  kept-moved : (old : SessionState) (to : Move) → Kept old → Kept (moved rule context old to)
  kept-moved old (Step n) kept =
      kept-come old (min (old.number + n) (last_number rule context)) kept
      (min-le_right (old.number + n) (last_number rule context))
  kept-moved old (Back n) kept =
      kept-come old (old.number - n) kept (omega (arith, kept.within))
  kept-moved old (StepStatement n) kept =
      kept-times (min n most_repeats) (on_statement rule context) old kept
      (λ state still. kept-come state (next_stop rule context (at_statements state.stop) state.number) still
      (next-within (at_statements state.stop) state.number))
  kept-moved old (BackStatement n) kept =
      kept-times (min n most_repeats) (back_statement rule context) old kept
      (λ state still. kept-come state (previous_stop rule context (at_statements state.stop) state.number)
      still (previous-within (at_statements state.stop) state.number still.within))
  kept-moved old (NextStatement n) kept =
      kept-times (min n most_repeats) (over_statement rule context) old kept
      (λ state still.
      kept-come state
      (next_stop rule context (to_statement (depth_at rule context state.number) state.stop) state.number)
      still
      (next-within (to_statement (depth_at rule context state.number) state.stop) state.number))
  kept-moved old (ReverseNextStatement n) kept =
      kept-times (min n most_repeats) (back_over_statement rule context) old kept
      (λ state still.
      kept-come state
      (previous_stop rule context (to_statement (depth_at rule context state.number) state.stop)
      state.number) still
      (previous-within (to_statement (depth_at rule context state.number) state.stop) state.number
      still.within))
  kept-moved old (Goto n) kept =
      kept-come old (min n (last_number rule context)) kept (min-le_right n (last_number rule context))
  kept-moved old End kept = kept-come old (last_number rule context) kept (omega arith)
  kept-moved old (Next n) kept =
      kept-times (min n most_repeats) (over rule context) old kept
      (λ state still. kept-on-to state (depth_at rule context state.number) still)
  kept-moved old (ReverseNext n) kept =
      kept-times (min n most_repeats) (back_over rule context) old kept
      (λ state still. kept-back-to state (depth_at rule context state.number) still)
  kept-moved old Finish kept =
      kept-if (depth_at rule context old.number == 0) old
      (on_to rule context old (depth_at rule context old.number - 1)) kept
      (kept-on-to old (depth_at rule context old.number - 1) kept)
  kept-moved old ReverseFinish kept =
      kept-if (depth_at rule context old.number == 0) old
      (back_to rule context old (depth_at rule context old.number - 1)) kept
      (kept-back-to old (depth_at rule context old.number - 1) kept)
  kept-moved old (Continue n) kept =
      kept-times (min n most_repeats) (on rule context) old kept kept-on
  kept-moved old (ReverseContinue n) kept =
      kept-times (min n most_repeats) (back rule context) old kept kept-back
  kept-moved old Run kept =
      kept-on (come_to rule context old 0) (kept-come old 0 kept (omega arith))
  kept-moved old (Until s) kept = kept-until old s kept
  kept-moved old UntilNext kept =
      kept-until old ((state_at rule context old.number).at.statement + 1) kept

  kept-test : (old : SessionState) (s : ℕ) (test : Option Test) (b : Bool) →
      slice_index_or old.stop.breakpoints s false ≡ b → Kept old →
      Kept (if b then record old { stop = record old.stop { tests = slice_set old.stop.tests s test } } else old)
  kept-test old s test true there kept = record {
    covered = kept.covered;
    backed = backed_test old.stop.breakpoints old.stop.tests s test kept.backed there;
    each = kept.each;
    size = kept.size;
    within = kept.within;
    depth = kept.depth;
    watched = kept.watched;
    displayed = kept.displayed;
  }
  kept-test old s test false there kept = kept

  kept-changed : (old : SessionState) (setting : Setting) → Kept old → Kept (changed old setting)
  kept-changed old (Break s) kept = kept-with s true false None old kept (λ is. refl) tt
  kept-changed old (BreakIf s test) kept = kept-with s true false (Some test) old kept (λ is. refl) refl
  kept-changed old (TemporaryBreak s) kept = kept-with s true true None old kept (λ is. refl) tt
  kept-changed old (Condition s test) kept =
      kept-test old s test (slice_index_or old.stop.breakpoints s false) refl kept
  kept-changed old (Delete s) kept = kept-with s false false None old kept (λ is. is) tt
  kept-changed old DeleteAll kept = record {
    covered = subst (λ (n : ℕ). Covered (replicate (length old.stop.breakpoints) false) (replicate n false))
        (covered_lengths old.stop.breakpoints old.temporary kept.covered)
        (covered_none (length old.stop.breakpoints));
    backed = backed_none (length old.stop.breakpoints);
    each = refl;
    size = length-replicate (length old.temporary) false ∙ kept.size;
    within = kept.within;
    depth = refl;
    watched = omega arith;
    displayed = kept.displayed;
  }
  kept-changed old (Watch watched) kept =
      kept-watched old (one_more most_watched old.stop.watched watched) kept
      (more_few most_watched old.stop.watched watched kept.watched)
  kept-changed old (Unwatch n) kept =
      kept-watched old (one_less old.stop.watched n) kept
      (less_few most_watched old.stop.watched n kept.watched)
  kept-changed old (UnwatchThis watched) kept =
      kept-watched old (one_less old.stop.watched (number_of_watched old.stop.watched watched)) kept
      (less_few most_watched old.stop.watched (number_of_watched old.stop.watched watched) kept.watched)
  kept-changed old (Display chain) kept =
      kept-displayed old (one_more most_displayed old.displayed chain) kept
      (more_few most_displayed old.displayed chain kept.displayed)
  kept-changed old (Undisplay n) kept =
      kept-displayed old (one_less old.displayed n) kept
      (less_few most_displayed old.displayed n kept.displayed)
  kept-changed old (UndisplayChain chain) kept =
      kept-displayed old (one_less old.displayed (number_in old.displayed chain)) kept
      (less_few most_displayed old.displayed (number_in old.displayed chain) kept.displayed)

  kept-word : (old : SessionState) (word : ℕ) (place : Result ℕ Trap) → Kept old →
      Kept (word_watched old word place)
  kept-word old word (Ok place) kept =
      kept-changed old (Watch (WatchedWord (record { place = place; word = word }))) kept
  kept-word old word (Err trap) kept = kept

  kept-after : (old : SessionState) (command : Command) → Kept old → Kept (after rule context old command)
  kept-after old (command.Move to) kept = kept-moved old to kept
  kept-after old (command.Setting setting) kept = kept-changed old setting kept
  kept-after old (command.View view) kept = kept
  kept-after old (command.WatchWord operand word) kept =
      kept-word old word (read (state_at rule context old.number).memory operand) kept
  kept-after old (command.Who operand) kept = kept

  pub kept-all : (old : SessionState) (commands : List Command) → Kept old →
      Kept (after_all rule context old commands)
  kept-all old [] kept = kept
  kept-all old (command ∷ commands) kept =
      kept-all (after rule context old command) commands (kept-after old command kept)
