-- The commands that are saved of a session lead to it.
use Rattle.std.proofs.Common.{◌≡◌, ℕ, zero, suc, ◌+◌, ◌<◌, ◌≤◌, Bool, true, false, List, [], ◌∷◌, ◌++◌, Option, Some, None, if◌then◌else◌, length, refl, sym, ap, ◌∙◌, append_assoc, arith}
use Rattle.std.specs.Prelude.{◌==◌, ◌&&◌, map, min, nat_lt, replicate, slice_index_or, slice_set}
use Rattle.std.proofs.Math.Seq.{set-append_seam}
use Rattle.std.proofs.Math.Bool.{and-false}
use Rattle.std.proofs.Math.Nat.{min-eq_left}
use Rattle.std.proofs.lemmas.Bool.{lt-ltb, true≢false}
use Rattle.std.proofs.lemmas.List.{append-nil, length-append, set-get_or}
use Rattle.l6_prog.specs.declared.condition.Test.{Test}
use Rattle.l6_store.specs.Rule.{Rule}
use Rattle.l6_steps.specs.Configuration.{state_at}
use Rattle.l6_steps.specs.Numbering.{last_number}
use Rattle.l6_steps.specs.State.{RunContext}
use Rattle.l6_history.specs.Numerals.{most_watched}
use Rattle.l6_history.specs.Stop.{meets}
use Rattle.l6_history.specs.declared.watched.Watched.{Watched}
use Rattle.l6_session.specs.Numerals.{most_displayed}
use Rattle.l6_session.specs.Saved.{LeadsBack, after_all, displayed as display_command, given_tests, lasting_breaks, saved_commands, temporary_breaks, watched as watch_command}
use Rattle.l6_session.specs.SessionState.{SessionState, after, first_session_state, with_breakpoint}
use Rattle.l6_session.specs.declared.command.Command.{Command}
use Rattle.l6_session.specs.declared.command.Command.TheVariants.{Move}
use Rattle.l6_session.specs.declared.command.Move.TheVariants.{Goto}
use Rattle.l6_session.proofs.Kept.{Backed, Covered, IsKept, backed_lengths, covered_lengths, kept-all, kept-first}

-- one after another
all_append : (rule : Rule) (context : RunContext) (old : SessionState) (one other : List Command) →
    after_all rule context old (one ++ other) ≡ after_all rule context (after_all rule context old one) other
all_append rule context old [] other = refl
all_append rule context old (command ∷ one) other = all_append rule context (after rule context old command) one other

abbrev made : ℕ → List Bool → List (Option Test) → List Bool → List Watched → List (List ℕ) → SessionState
made number breakpoints tests temporary watched displayed = record {
  number = number;
  stop = record {
    breakpoints = breakpoints;
    tests = tests;
    each = false;
    watched = watched;
    depth = None;
  };
  temporary = temporary;
  displayed = displayed;
}

-- nothing is set
abbrev none_of : List Bool → List Bool
none_of [] = []
none_of (first ∷ others) = false ∷ none_of others

none_index : (is : List Bool) (i : ℕ) → slice_index_or (none_of is) i false ≡ false
none_index [] i = refl
none_index (first ∷ others) zero = refl
none_index (first ∷ others) (suc i) = none_index others i

none_set : (is : List Bool) (i : ℕ) → slice_set (none_of is) i false ≡ none_of is
none_set is i =
    ap (λ b. slice_set (none_of is) i b) (sym (none_index is i)) ∙ set-get_or (none_of is) i false

none_replicate : (is : List Bool) (n : ℕ) → length is ≡ n → replicate n false ≡ none_of is
none_replicate [] zero same = refl
none_replicate (first ∷ others) (suc n) same =
    ap (λ rest. false ∷ rest) (none_replicate others n (omega (arith, same)))
none_replicate [] (suc n) same = absurd (omega (arith, same))
none_replicate (first ∷ others) zero same = absurd (omega (arith, same))

-- and no test is given
abbrev without : List (Option Test) → List (Option Test)
without [] = []
without (first ∷ others) = None ∷ without others

without_index : (tests : List (Option Test)) (i : ℕ) → slice_index_or (without tests) i None ≡ None
without_index [] i = refl
without_index (first ∷ others) zero = refl
without_index (first ∷ others) (suc i) = without_index others i

without_set : (tests : List (Option Test)) (i : ℕ) → slice_set (without tests) i None ≡ without tests
without_set tests i =
    ap (λ t. slice_set (without tests) i t) (sym (without_index tests i))
    ∙ set-get_or (without tests) i None

without_replicate : (tests : List (Option Test)) (n : ℕ) → length tests ≡ n →
    replicate n None ≡ without tests
without_replicate [] zero same = refl
without_replicate (first ∷ others) (suc n) same =
    ap (λ rest. None ∷ rest) (without_replicate others n (omega (arith, same)))
without_replicate [] (suc n) same = absurd (omega (arith, same))
without_replicate (first ∷ others) zero same = absurd (omega (arith, same))

-- the breakpoints that are not temporary
abbrev kept_of : List Bool → List Bool → List Bool
kept_of (true ∷ is) (false ∷ temporary) = true ∷ kept_of is temporary
kept_of (i ∷ is) (t ∷ temporary) = false ∷ kept_of is temporary
kept_of is temporary = []

seam : {A : Type 0} (front rest : List A) (s : ℕ) (was is : A) → length front ≡ s →
    slice_set (front ++ was ∷ rest) s is ≡ (front ++ is ∷ []) ++ rest
seam front rest s was is same =
    ap (λ i. slice_set (front ++ was ∷ rest) i is) (sym same) ∙ set-append_seam front was rest is
    ∙ sym (append_assoc front (is ∷ []) rest)

further : {A : Type 0} (front : List A) (s : ℕ) (is : A) → length front ≡ s →
    length (front ++ is ∷ []) ≡ s + 1
further front s is same = length-append front (is ∷ []) ∙ ap (λ n. n + 1) same

index_seam : (front rest : List Bool) (s : ℕ) (is : Bool) → length front ≡ s →
    slice_index_or (front ++ is ∷ rest) s false ≡ is
index_seam [] rest zero is same = refl
index_seam (first ∷ front) rest (suc s) is same = index_seam front rest s is (omega (arith, same))
index_seam [] rest (suc s) is same = absurd (omega (arith, same))
index_seam (first ∷ front) rest zero is same = absurd (omega (arith, same))

module _ (rule : Rule) (context : RunContext) (n : ℕ) where
  abbrev all : SessionState → List Command → SessionState
  all old commands = after_all rule context old commands

  lasting-all : (every : List Bool) (tests : List (Option Test)) (front is temporary : List Bool) (s : ℕ)
      (watched : List Watched) (displayed : List (List ℕ)) → length front ≡ s → Covered is temporary →
      all (made n (front ++ none_of is) (without tests) (none_of every) watched displayed)
      (lasting_breaks s is temporary)
      ≡ made n (front ++ kept_of is temporary) (without tests) (none_of every) watched displayed
  lasting-all every tests front [] [] s watched displayed same covered = refl
  lasting-all every tests front [] (t ∷ temporary) s watched displayed same covered = absurd covered
  lasting-all every tests front (i ∷ is) [] s watched displayed same covered = absurd covered
  lasting-all every tests front (true ∷ is) (false ∷ temporary) s watched displayed same covered =
      ap (λ b. all (made n b (slice_set (without tests) s None) (slice_set (none_of every) s false)
      watched displayed) (lasting_breaks (s + 1) is temporary)) (seam front (none_of is) s false true same)
      ∙ ap (λ u. all (made n ((front ++ true ∷ []) ++ none_of is) u (slice_set (none_of every) s false)
      watched displayed) (lasting_breaks (s + 1) is temporary)) (without_set tests s)
      ∙ ap (λ t. all (made n ((front ++ true ∷ []) ++ none_of is) (without tests) t watched displayed)
      (lasting_breaks (s + 1) is temporary)) (none_set every s)
      ∙ lasting-all every tests (front ++ true ∷ []) is temporary (s + 1) watched displayed
      (further front s true same) covered.1
      ∙ ap (λ b. made n b (without tests) (none_of every) watched displayed)
      (append_assoc front (true ∷ []) (kept_of is temporary))
  lasting-all every tests front (true ∷ is) (true ∷ temporary) s watched displayed same covered =
      ap (λ b. all (made n b (without tests) (none_of every) watched displayed)
      (lasting_breaks (s + 1) is temporary)) (sym (append_assoc front (false ∷ []) (none_of is)))
      ∙ lasting-all every tests (front ++ false ∷ []) is temporary (s + 1) watched displayed
      (further front s false same) covered.1
      ∙ ap (λ b. made n b (without tests) (none_of every) watched displayed)
      (append_assoc front (false ∷ []) (kept_of is temporary))
  lasting-all every tests front (false ∷ is) (t ∷ temporary) s watched displayed same covered =
      ap (λ b. all (made n b (without tests) (none_of every) watched displayed)
      (lasting_breaks (s + 1) is temporary)) (sym (append_assoc front (false ∷ []) (none_of is)))
      ∙ lasting-all every tests (front ++ false ∷ []) is temporary (s + 1) watched displayed
      (further front s false same) covered.1
      ∙ ap (λ b. made n b (without tests) (none_of every) watched displayed)
      (append_assoc front (false ∷ []) (kept_of is temporary))

  -- a statement whose temporary breakpoint is not set, or was
  one-past : (tests : List (Option Test)) (front before is temporary : List Bool) (s : ℕ) (i t : Bool)
      (watched : List Watched) (displayed : List (List ℕ)) →
      all (made n ((front ++ i ∷ []) ++ kept_of is temporary) (without tests)
      ((before ++ t ∷ []) ++ none_of temporary) watched displayed) (temporary_breaks (s + 1) temporary)
      ≡ made n ((front ++ i ∷ []) ++ is) (without tests) ((before ++ t ∷ []) ++ temporary) watched displayed →
      all (made n ((front ++ i ∷ []) ++ kept_of is temporary) (without tests)
      ((before ++ t ∷ []) ++ none_of temporary) watched displayed) (temporary_breaks (s + 1) temporary)
      ≡ made n (front ++ i ∷ is) (without tests) (before ++ t ∷ temporary) watched displayed
  one-past tests front before is temporary s i t watched displayed others =
      others
      ∙ ap (λ b. made n b (without tests) ((before ++ t ∷ []) ++ temporary) watched displayed)
      (append_assoc front (i ∷ []) is)
      ∙ ap (λ u. made n (front ++ i ∷ is) (without tests) u watched displayed)
      (append_assoc before (t ∷ []) temporary)

  -- a statement without one
  one-left : (tests : List (Option Test)) (front before is temporary : List Bool) (s : ℕ) (i : Bool)
      (watched : List Watched) (displayed : List (List ℕ)) →
      all (made n (front ++ i ∷ kept_of is temporary) (without tests) (before ++ false ∷ none_of temporary)
      watched displayed) (temporary_breaks (s + 1) temporary)
      ≡ all (made n ((front ++ i ∷ []) ++ kept_of is temporary) (without tests)
      ((before ++ false ∷ []) ++ none_of temporary) watched displayed) (temporary_breaks (s + 1) temporary)
  one-left tests front before is temporary s i watched displayed =
      ap (λ b. all (made n b (without tests) (before ++ false ∷ none_of temporary) watched displayed)
      (temporary_breaks (s + 1) temporary)) (sym (append_assoc front (i ∷ []) (kept_of is temporary)))
      ∙ ap (λ t. all (made n ((front ++ i ∷ []) ++ kept_of is temporary) (without tests) t watched displayed)
      (temporary_breaks (s + 1) temporary)) (sym (append_assoc before (false ∷ []) (none_of temporary)))

  once-all : (tests : List (Option Test)) (front before is temporary : List Bool) (s : ℕ)
      (watched : List Watched) (displayed : List (List ℕ)) → length front ≡ s → length before ≡ s → Covered is temporary →
      all (made n (front ++ kept_of is temporary) (without tests) (before ++ none_of temporary) watched
      displayed) (temporary_breaks s temporary)
      ≡ made n (front ++ is) (without tests) (before ++ temporary) watched displayed
  once-all tests front before [] [] s watched displayed same likewise covered = refl
  once-all tests front before [] (t ∷ temporary) s watched displayed same likewise covered = absurd covered
  once-all tests front before (i ∷ is) [] s watched displayed same likewise covered = absurd covered
  once-all tests front before (true ∷ is) (true ∷ temporary) s watched displayed same likewise covered =
      ap (λ b. all (made n b (slice_set (without tests) s None)
      (slice_set (before ++ false ∷ none_of temporary) s true) watched displayed)
      (temporary_breaks (s + 1) temporary)) (seam front (kept_of is temporary) s false true same)
      ∙ ap (λ u. all (made n ((front ++ true ∷ []) ++ kept_of is temporary) u
      (slice_set (before ++ false ∷ none_of temporary) s true) watched displayed)
      (temporary_breaks (s + 1) temporary)) (without_set tests s)
      ∙ ap (λ t. all (made n ((front ++ true ∷ []) ++ kept_of is temporary) (without tests) t watched
      displayed) (temporary_breaks (s + 1) temporary)) (seam before (none_of temporary) s false true likewise)
      ∙ one-past tests front before is temporary s true true watched displayed
      (once-all tests (front ++ true ∷ []) (before ++ true ∷ []) is temporary (s + 1) watched displayed
      (further front s true same) (further before s true likewise) covered.1)
  once-all tests front before (false ∷ is) (true ∷ temporary) s watched displayed same likewise covered =
      absurd (true≢false (sym (covered.0 refl)))
  once-all tests front before (true ∷ is) (false ∷ temporary) s watched displayed same likewise covered =
      one-left tests front before is temporary s true watched displayed
      ∙ one-past tests front before is temporary s true false watched displayed
      (once-all tests (front ++ true ∷ []) (before ++ false ∷ []) is temporary (s + 1) watched displayed
      (further front s true same) (further before s false likewise) covered.1)
  once-all tests front before (false ∷ is) (false ∷ temporary) s watched displayed same likewise covered =
      one-left tests front before is temporary s false watched displayed
      ∙ one-past tests front before is temporary s false false watched displayed
      (once-all tests (front ++ false ∷ []) (before ++ false ∷ []) is temporary (s + 1) watched displayed
      (further front s false same) (further before s false likewise) covered.1)

  -- the tests, where those that have one have a breakpoint
  tests-past : (front is : List Bool) (given tests : List (Option Test)) (temporary : List Bool) (s : ℕ)
      (i : Bool) (t : Option Test) (watched : List Watched) (displayed : List (List ℕ)) →
      all (made n ((front ++ i ∷ []) ++ is) ((given ++ t ∷ []) ++ without tests) temporary watched displayed)
      (given_tests (s + 1) tests)
      ≡ made n ((front ++ i ∷ []) ++ is) ((given ++ t ∷ []) ++ tests) temporary watched displayed →
      all (made n (front ++ i ∷ is) ((given ++ t ∷ []) ++ without tests) temporary watched displayed)
      (given_tests (s + 1) tests)
      ≡ made n (front ++ i ∷ is) (given ++ t ∷ tests) temporary watched displayed
  tests-past front is given tests temporary s i t watched displayed others =
      ap (λ b. all (made n b ((given ++ t ∷ []) ++ without tests) temporary watched displayed)
      (given_tests (s + 1) tests)) (sym (append_assoc front (i ∷ []) is))
      ∙ others
      ∙ ap (λ b. made n b ((given ++ t ∷ []) ++ tests) temporary watched displayed)
      (append_assoc front (i ∷ []) is)
      ∙ ap (λ u. made n (front ++ i ∷ is) u temporary watched displayed) (append_assoc given (t ∷ []) tests)

  tests-all : (front is : List Bool) (given tests : List (Option Test)) (temporary : List Bool) (s : ℕ)
      (watched : List Watched) (displayed : List (List ℕ)) → length front ≡ s → length given ≡ s → Backed is tests →
      all (made n (front ++ is) (given ++ without tests) temporary watched displayed) (given_tests s tests)
      ≡ made n (front ++ is) (given ++ tests) temporary watched displayed
  tests-all front [] given [] temporary s watched displayed same likewise backed = refl
  tests-all front [] given (t ∷ tests) temporary s watched displayed same likewise backed = absurd backed
  tests-all front (i ∷ is) given [] temporary s watched displayed same likewise backed = absurd backed
  tests-all front (i ∷ is) given (None ∷ tests) temporary s watched displayed same likewise backed =
      ap (λ u. all (made n (front ++ i ∷ is) u temporary watched displayed) (given_tests (s + 1) tests))
      (sym (append_assoc given (None ∷ []) (without tests)))
      ∙ tests-past front is given tests temporary s i None watched displayed
      (tests-all (front ++ i ∷ []) is (given ++ None ∷ []) tests temporary (s + 1) watched displayed
      (further front s i same) (further given s None likewise) backed)
  tests-all front (i ∷ is) given (Some t ∷ tests) temporary s watched displayed same likewise backed =
      let old = made n (front ++ i ∷ is) (given ++ None ∷ without tests) temporary watched displayed in
      let new = made n (front ++ i ∷ is) (slice_set (given ++ None ∷ without tests) s (Some t)) temporary
      watched displayed in
      ap (λ b. all (if b then new else old) (given_tests (s + 1) tests))
      (index_seam front is s i same ∙ backed.0)
      ∙ ap (λ u. all (made n (front ++ i ∷ is) u temporary watched displayed) (given_tests (s + 1) tests))
      (seam given (without tests) s None (Some t) likewise)
      ∙ tests-past front is given tests temporary s i (Some t) watched displayed
      (tests-all (front ++ i ∷ []) is (given ++ Some t ∷ []) tests temporary (s + 1) watched displayed
      (further front s i same) (further given s (Some t) likewise) backed.1)

  one-further : {A : Type 0} (most : ℕ) (before : List A) (chain : A) → length before < most →
      (if nat_lt (length before) most then before ++ chain ∷ [] else before) ≡ before ++ chain ∷ []
  one-further most before chain room =
      ap (λ b. if b then before ++ chain ∷ [] else before) (lt-ltb (length before) most room)

  watch-all : (breakpoints : List Bool) (tests : List (Option Test)) (temporary : List Bool)
      (before chains : List Watched) (displayed : List (List ℕ)) →
      length before + length chains ≤ most_watched →
      all (made n breakpoints tests temporary before displayed) (map watch_command chains)
      ≡ made n breakpoints tests temporary (before ++ chains) displayed
  watch-all breakpoints tests temporary before [] displayed few =
      ap (λ w. made n breakpoints tests temporary w displayed) (sym (append-nil before))
  watch-all breakpoints tests temporary before (chain ∷ chains) displayed few =
      ap (λ w. all (made n breakpoints tests temporary w displayed) (map watch_command chains))
      (one-further most_watched before chain (omega (arith, few)))
      ∙ watch-all breakpoints tests temporary (before ++ chain ∷ []) chains displayed
      (omega (arith, few, length-append before (chain ∷ [])))
      ∙ ap (λ w. made n breakpoints tests temporary w displayed) (append_assoc before (chain ∷ []) chains)

  display-all : (breakpoints : List Bool) (tests : List (Option Test)) (temporary : List Bool)
      (watched : List Watched) (before chains : List (List ℕ)) →
      length before + length chains ≤ most_displayed →
      all (made n breakpoints tests temporary watched before) (map display_command chains)
      ≡ made n breakpoints tests temporary watched (before ++ chains)
  display-all breakpoints tests temporary watched before [] few =
      ap (λ d. made n breakpoints tests temporary watched d) (sym (append-nil before))
  display-all breakpoints tests temporary watched before (chain ∷ chains) few =
      ap (λ d. all (made n breakpoints tests temporary watched d) (map display_command chains))
      (one-further most_displayed before chain (omega (arith, few)))
      ∙ display-all breakpoints tests temporary watched (before ++ chain ∷ []) chains
      (omega (arith, few, length-append before (chain ∷ [])))
      ∙ ap (λ d. made n breakpoints tests temporary watched d) (append_assoc before (chain ∷ []) chains)

-- no temporary breakpoint is on the way
goes : (rule : Rule) (context : RunContext) (number : ℕ) (breakpoints : List Bool)
    (tests : List (Option Test)) (every : List Bool) (watched : List Watched) (displayed : List (List ℕ)) →
    number ≤ last_number rule context →
    after rule context (made 0 breakpoints tests (none_of every) watched displayed) (Move (Goto number))
    ≡ made number breakpoints tests (none_of every) watched displayed
goes rule context number breakpoints tests every watched displayed within =
    let goal : ℕ = min number (last_number rule context) in
    let old = made goal breakpoints tests (none_of every) watched displayed in
    let state = state_at rule context goal in
    let met = meets tests state in
    let removed = with_breakpoint state.at.statement false false None old in
    ap (λ b. if (state.at.action == 0 && b) && met then removed else old)
    (none_index every state.at.statement)
    ∙ ap (λ b. if b && met then removed else old) (and-false (state.at.action == 0))
    ∙ ap (λ m. made m breakpoints tests (none_of every) watched displayed) (min-eq_left within)

kept_leads_back : (rule : Rule) (context : RunContext) (state : SessionState) → IsKept rule context state →
    after_all rule context (first_session_state context) (saved_commands state) ≡ state
kept_leads_back rule context state kept =
    let statements = length context.program in
    let is = state.stop.breakpoints in
    let tests = state.stop.tests in
    let temporary = state.temporary in
    let watched = state.stop.watched in
    let displayed = state.displayed in
    let breaks = lasting_breaks 0 is temporary in
    let first = first_session_state context in
    let size : length is ≡ statements = covered_lengths is temporary kept.covered ∙ kept.size in
    let begins : first ≡ made 0 (none_of is) (without tests) (none_of temporary) [] [] =
    ap (λ b. made 0 b (replicate statements None) (replicate statements false) [] [])
    (none_replicate is statements size)
    ∙ ap (λ u. made 0 (none_of is) u (replicate statements false) [] [])
    (without_replicate tests statements (sym (backed_lengths is tests kept.backed) ∙ size))
    ∙ ap (λ t. made 0 (none_of is) (without tests) t [] [])
    (none_replicate temporary statements kept.size) in
    let nothing = made 0 (none_of is) (without tests) (none_of temporary) [] [] in
    let lasting = kept_of is temporary in
    let watches = map watch_command watched in
    let displays = map display_command displayed in
    let once = temporary_breaks 0 temporary in
    let given = given_tests 0 tests in
    let goto = Move (Goto state.number) ∷ once in
    ap (λ s. after_all rule context s (saved_commands state)) begins
    ∙ all_append rule context nothing (breaks ++ watches ++ displays ++ goto) given
    ∙ ap (λ s. after_all rule context s given)
    (all_append rule context nothing (breaks ++ watches ++ displays) goto
    ∙ ap (λ s. after_all rule context s goto)
    (all_append rule context nothing (breaks ++ watches) displays
    ∙ ap (λ s. after_all rule context s displays)
    (all_append rule context nothing breaks watches
    ∙ ap (λ s. after_all rule context s watches)
    (lasting-all rule context 0 temporary tests [] is temporary 0 [] [] refl kept.covered)
    ∙ watch-all rule context 0 lasting (without tests) (none_of temporary) [] watched []
    (omega (arith, kept.watched)))
    ∙ display-all rule context 0 lasting (without tests) (none_of temporary) watched [] displayed
    (omega (arith, kept.displayed)))
    ∙ ap (λ s. after_all rule context s once)
    (goes rule context state.number lasting (without tests) temporary watched displayed kept.within)
    ∙ once-all rule context state.number tests [] [] is temporary 0 watched displayed refl refl kept.covered)
    ∙ tests-all rule context state.number [] is [] tests temporary 0 watched displayed refl refl kept.backed
    ∙ ap (λ each. record state { stop = record state.stop { each = each; depth = None } }) (sym kept.each)
    ∙ ap (λ depth. record state { stop = record state.stop { depth = depth } }) (sym kept.depth)

-- to whatever session commands lead
pub leads_back : (rule : Rule) → LeadsBack rule
leads_back rule context commands =
    let first = first_session_state context in
    kept_leads_back rule context (after_all rule context first commands)
    (kept-all rule context first commands (kept-first rule context))
