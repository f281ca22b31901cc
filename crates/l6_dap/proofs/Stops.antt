-- Breakpoints that are removed and set, one after another, are those that are asked for.
use Rattle.std.proofs.Common.{◌≡◌, ◌<◌, ℕ, zero, suc, ◌==◌, Bool, true, false, ◌&&◌, ◌||◌, List, [], ◌∷◌, ◌++◌, length, Option, Some, None, refl, sym, ap, ◌∙◌, subst, arith}
use Rattle.std.specs.Prelude.{is_none, is_some, slice_index_or, slice_set, if◌then◌else◌}
use Rattle.std.specs.List.{list_any}
use Rattle.std.specs.Option.{option_or}
use Rattle.std.proofs.lemmas.List.{get_or-set_same, get_or-set_other, length-set}
use Rattle.l6_prog.specs.declared.condition.Test.{Test}
use Rattle.l6_session.specs.SessionState.{SessionState, with_breakpoint}
use Rattle.l6_dap.specs.Debugged.{Debugged}
use Rattle.l6_dap.specs.Breakpoints.{StopsAsAsked, StopsJustAt, is_asked, is_plain, last_test, with_stops_of}
use Rattle.l6_dap.specs.declared.debuggee.Breakpoint.{Breakpoint}
use Rattle.l6_dap.specs.inner.Setting.{cleared, count_of, with_all_plain, with_all_tested, with_plain, with_tested}

-- what is written to a list is there, and all else is as it was
pub written : {X : Type 0} (xs : List X) (i k : ℕ) (a d : X) → k < length xs →
    slice_index_or (slice_set xs i a) k d ≡ (if i == k then a else slice_index_or xs k d)
written xs i k a d within = grind (arith, get_or-set_same, get_or-set_other)

-- where the default is written it is read, also past the end
pub default_there : {X : Type 0} (xs : List X) (i : ℕ) (d : X) → slice_index_or (slice_set xs i d) i d ≡ d
default_there [] i d = refl
default_there (x ∷ xs) zero d = refl
default_there (x ∷ xs) (suc i) d = default_there xs i d

pub cleared_length : (n : ℕ) (state : SessionState) →
    length (cleared n state).stop.breakpoints ≡ length state.stop.breakpoints
cleared_length zero state = refl
cleared_length (suc n) state = length-set _ _ _ ∙ cleared_length n state

-- the first statements have no breakpoint
default_below : {X : Type 0} (xs : List X) (n k : ℕ) (d : X) → (k < n → slice_index_or xs k d ≡ d) →
    k < suc n → slice_index_or (slice_set xs n d) k d ≡ d
default_below xs n k d below within = grind (arith, default_there, get_or-set_other)

pub cleared_breakpoints : (n : ℕ) (state : SessionState) (k : ℕ) → k < n →
    slice_index_or (cleared n state).stop.breakpoints k false ≡ false
cleared_breakpoints zero state k below = absurd (omega (arith, below))
cleared_breakpoints (suc n) state k below =
    default_below (cleared n state).stop.breakpoints n k false (cleared_breakpoints n state k) below

pub cleared_tests : (n : ℕ) (state : SessionState) (k : ℕ) → k < n →
    slice_index_or (cleared n state).stop.tests k None ≡ None
cleared_tests zero state k below = absurd (omega (arith, below))
cleared_tests (suc n) state k below =
    default_below (cleared n state).stop.tests n k None (cleared_tests n state k) below

pub cleared_temporary : (n : ℕ) (state : SessionState) (k : ℕ) → k < n →
    slice_index_or (cleared n state).temporary k false ≡ false
cleared_temporary zero state k below = absurd (omega (arith, below))
cleared_temporary (suc n) state k below =
    default_below (cleared n state).temporary n k false (cleared_temporary n state k) below

pub cleared_others : (n : ℕ) (state : SessionState) → cleared n state ≡ with_stops_of state (cleared n state)
cleared_others zero state = refl
cleared_others (suc n) state =
    subst (λ (s : SessionState). with_breakpoint n false false None s ≡ with_stops_of state (with_breakpoint n false false None s))
    (sym (cleared_others n state)) refl

-- ---- breakpoints with tests are set
and_false : (b c : Bool) → c ≡ ((b && false) || c)
and_false true c = refl
and_false false c = refl

if_or : (b c : Bool) → (if b then true else c) ≡ ((b && true) || c)
if_or true c = refl
if_or false c = refl

if_none : {X : Type 0} (b : Bool) (c : Option X) → c ≡ option_or (if b then None else None) c
if_none true c = refl
if_none false c = refl

if_some : {X : Type 0} (b : Bool) (x : X) (c : Option X) →
    (if b then Some x else c) ≡ option_or (if b then Some x else None) c
if_some true x c = refl
if_some false x c = refl

-- one of them
tested_breakpoint : (statement : ℕ) (test : Option Test) (state : SessionState) (k : ℕ) →
    k < length state.stop.breakpoints →
    slice_index_or (with_tested statement test state).stop.breakpoints k false
    ≡ ((statement == k && is_some test) || slice_index_or state.stop.breakpoints k false)
tested_breakpoint statement None state k within =
    and_false (statement == k) (slice_index_or state.stop.breakpoints k false)
tested_breakpoint statement (Some test) state k within =
    written state.stop.breakpoints statement k true false within
    ∙ if_or (statement == k) (slice_index_or state.stop.breakpoints k false)

tested_test : (statement : ℕ) (test : Option Test) (state : SessionState) (k : ℕ) →
    k < length state.stop.tests →
    slice_index_or (with_tested statement test state).stop.tests k None
    ≡ option_or (if statement == k then test else None) (slice_index_or state.stop.tests k None)
tested_test statement None state k within =
    if_none (statement == k) (slice_index_or state.stop.tests k None)
tested_test statement (Some test) state k within =
    written state.stop.tests statement k (Some test) None within
    ∙ if_some (statement == k) test (slice_index_or state.stop.tests k None)

tested_lengths : (statement : ℕ) (test : Option Test) (state : SessionState) →
    (length (with_tested statement test state).stop.breakpoints ≡ length state.stop.breakpoints)
    × (length (with_tested statement test state).stop.tests ≡ length state.stop.tests)
tested_lengths statement None state = (refl, refl)
tested_lengths statement (Some test) state = (length-set _ _ _, length-set _ _ _)

tested_temporary : (statement : ℕ) (test : Option Test) (state : SessionState) (k : ℕ) →
    slice_index_or state.temporary k false ≡ false →
    slice_index_or (with_tested statement test state).temporary k false ≡ false
tested_temporary statement None state k was = was
tested_temporary statement (Some test) state k was = grind (arith, default_there, get_or-set_other)

tested_others : (statement : ℕ) (test : Option Test) (state : SessionState) →
    with_tested statement test state ≡ with_stops_of state (with_tested statement test state)
tested_others statement None state = refl
tested_others statement (Some test) state = refl

or_moves : (a b c : Bool) → (b || (a || c)) ≡ ((a || b) || c)
or_moves true true c = refl
or_moves true false c = refl
or_moves false true c = refl
or_moves false false c = refl

option_or_moves : {X : Type 0} (a b c : Option X) → option_or a (option_or b c) ≡ option_or (option_or a b) c
option_or_moves None b c = refl
option_or_moves (Some x) b c = refl

pub all_tested_breakpoints : (all : List Breakpoint) (state : SessionState) (k : ℕ) → k < length state.stop.breakpoints →
    slice_index_or (with_all_tested all state).stop.breakpoints k false
    ≡ (list_any (λ one. one.statement == k && is_some one.test) all || slice_index_or state.stop.breakpoints k false)
all_tested_breakpoints [] state k within = refl
all_tested_breakpoints (one ∷ others) state k within =
    let next = with_tested one.statement one.test state in
    let length_is = (tested_lengths one.statement one.test state).0 in
    all_tested_breakpoints others next k (omega (arith, length_is, within))
    ∙ ap (λ b. list_any (λ (it : Breakpoint). it.statement == k && is_some it.test) others || b)
    (tested_breakpoint one.statement one.test state k within)
    ∙ or_moves (one.statement == k && is_some one.test) _ _

pub all_tested_tests : (all : List Breakpoint) (state : SessionState) (k : ℕ) → k < length state.stop.tests →
    slice_index_or (with_all_tested all state).stop.tests k None
    ≡ option_or (last_test k all) (slice_index_or state.stop.tests k None)
all_tested_tests [] state k within = refl
all_tested_tests (one ∷ others) state k within =
    let next = with_tested one.statement one.test state in
    let length_is = (tested_lengths one.statement one.test state).1 in
    all_tested_tests others next k (omega (arith, length_is, within))
    ∙ ap (λ b. option_or (last_test k others) b) (tested_test one.statement one.test state k within)
    ∙ option_or_moves (last_test k others) _ _

pub all_tested_lengths : (all : List Breakpoint) (state : SessionState) →
    (length (with_all_tested all state).stop.breakpoints ≡ length state.stop.breakpoints)
    × (length (with_all_tested all state).stop.tests ≡ length state.stop.tests)
all_tested_lengths [] state = (refl, refl)
all_tested_lengths (one ∷ others) state =
    let first = tested_lengths one.statement one.test state in
    let rest = all_tested_lengths others (with_tested one.statement one.test state) in
    (rest.0 ∙ first.0, rest.1 ∙ first.1)

pub all_tested_temporary : (all : List Breakpoint) (state : SessionState) (k : ℕ) →
    slice_index_or state.temporary k false ≡ false →
    slice_index_or (with_all_tested all state).temporary k false ≡ false
all_tested_temporary [] state k was = was
all_tested_temporary (one ∷ others) state k was =
    all_tested_temporary others (with_tested one.statement one.test state) k
    (tested_temporary one.statement one.test state k was)

-- what is as it was after one change is so after a further one
others_on : (old between new : SessionState) → between ≡ with_stops_of old between →
    new ≡ with_stops_of between new → new ≡ with_stops_of old new
others_on old between new before after =
    after ∙ ap (λ (s : SessionState). with_stops_of s new) before

pub all_tested_others : (all : List Breakpoint) (state : SessionState) →
    with_all_tested all state ≡ with_stops_of state (with_all_tested all state)
all_tested_others [] state = refl
all_tested_others (one ∷ others) state =
    let next = with_tested one.statement one.test state in
    others_on state next (with_all_tested others next) (tested_others one.statement one.test state)
    (all_tested_others others next)

-- ---- those without tests are set
plain_breakpoint : (statement : ℕ) (test : Option Test) (state : SessionState) (k : ℕ) →
    k < length state.stop.breakpoints →
    slice_index_or (with_plain statement test state).stop.breakpoints k false
    ≡ ((statement == k && is_none test) || slice_index_or state.stop.breakpoints k false)
plain_breakpoint statement None state k within =
    written state.stop.breakpoints statement k true false within
    ∙ if_or (statement == k) (slice_index_or state.stop.breakpoints k false)
plain_breakpoint statement (Some test) state k within =
    and_false (statement == k) (slice_index_or state.stop.breakpoints k false)

if_and : {X : Type 0} (b : Bool) (c : Option X) →
    (if b then None else c) ≡ (if b && true then None else c)
if_and true c = refl
if_and false c = refl

if_not : {X : Type 0} (b : Bool) (c : Option X) → c ≡ (if b && false then None else c)
if_not true c = refl
if_not false c = refl

plain_test : (statement : ℕ) (test : Option Test) (state : SessionState) (k : ℕ) →
    k < length state.stop.tests →
    slice_index_or (with_plain statement test state).stop.tests k None
    ≡ (if statement == k && is_none test then None else slice_index_or state.stop.tests k None)
plain_test statement None state k within =
    written state.stop.tests statement k None None within
    ∙ if_and (statement == k) (slice_index_or state.stop.tests k None)
plain_test statement (Some test) state k within =
    if_not (statement == k) (slice_index_or state.stop.tests k None)

plain_lengths : (statement : ℕ) (test : Option Test) (state : SessionState) →
    (length (with_plain statement test state).stop.breakpoints ≡ length state.stop.breakpoints)
    × (length (with_plain statement test state).stop.tests ≡ length state.stop.tests)
plain_lengths statement None state = (length-set _ _ _, length-set _ _ _)
plain_lengths statement (Some test) state = (refl, refl)

plain_temporary : (statement : ℕ) (test : Option Test) (state : SessionState) (k : ℕ) →
    slice_index_or state.temporary k false ≡ false →
    slice_index_or (with_plain statement test state).temporary k false ≡ false
plain_temporary statement None state k was = grind (arith, default_there, get_or-set_other)
plain_temporary statement (Some test) state k was = was

plain_others : (statement : ℕ) (test : Option Test) (state : SessionState) →
    with_plain statement test state ≡ with_stops_of state (with_plain statement test state)
plain_others statement None state = refl
plain_others statement (Some test) state = refl

pub all_plain_breakpoints : (all : List Breakpoint) (state : SessionState) (k : ℕ) →
    k < length state.stop.breakpoints →
    slice_index_or (with_all_plain all state).stop.breakpoints k false
    ≡ (is_plain k all || slice_index_or state.stop.breakpoints k false)
all_plain_breakpoints [] state k within = refl
all_plain_breakpoints (one ∷ others) state k within =
    let next = with_plain one.statement one.test state in
    let length_is = (plain_lengths one.statement one.test state).0 in
    all_plain_breakpoints others next k (omega (arith, length_is, within))
    ∙ ap (λ b. is_plain k others || b) (plain_breakpoint one.statement one.test state k within)
    ∙ or_moves (one.statement == k && is_none one.test) _ _

if_moves : {X : Type 0} (a b : Bool) (c : Option X) →
    (if b then None else (if a then None else c)) ≡ (if a || b then None else c)
if_moves true true c = refl
if_moves true false c = refl
if_moves false b c = refl

pub all_plain_tests : (all : List Breakpoint) (state : SessionState) (k : ℕ) →
    k < length state.stop.tests →
    slice_index_or (with_all_plain all state).stop.tests k None
    ≡ (if is_plain k all then None else slice_index_or state.stop.tests k None)
all_plain_tests [] state k within = refl
all_plain_tests (one ∷ others) state k within =
    let next = with_plain one.statement one.test state in
    let length_is = (plain_lengths one.statement one.test state).1 in
    all_plain_tests others next k (omega (arith, length_is, within))
    ∙ ap (λ (b : Option Test). if is_plain k others then None else b) (plain_test one.statement one.test state k within)
    ∙ if_moves (one.statement == k && is_none one.test) (is_plain k others) _

pub all_plain_lengths : (all : List Breakpoint) (state : SessionState) →
    (length (with_all_plain all state).stop.breakpoints ≡ length state.stop.breakpoints)
    × (length (with_all_plain all state).stop.tests ≡ length state.stop.tests)
all_plain_lengths [] state = (refl, refl)
all_plain_lengths (one ∷ others) state =
    let first = plain_lengths one.statement one.test state in
    let rest = all_plain_lengths others (with_plain one.statement one.test state) in
    (rest.0 ∙ first.0, rest.1 ∙ first.1)

pub all_plain_temporary : (all : List Breakpoint) (state : SessionState) (k : ℕ) →
    slice_index_or state.temporary k false ≡ false →
    slice_index_or (with_all_plain all state).temporary k false ≡ false
all_plain_temporary [] state k was = was
all_plain_temporary (one ∷ others) state k was =
    all_plain_temporary others (with_plain one.statement one.test state) k
    (plain_temporary one.statement one.test state k was)

pub all_plain_others : (all : List Breakpoint) (state : SessionState) →
    with_all_plain all state ≡ with_stops_of state (with_all_plain all state)
all_plain_others [] state = refl
all_plain_others (one ∷ others) state =
    let next = with_plain one.statement one.test state in
    others_on state next (with_all_plain others next) (plain_others one.statement one.test state)
    (all_plain_others others next)

-- ---- all of them
pub tested_append : (all more : List Breakpoint) (state : SessionState) →
    with_all_tested more (with_all_tested all state) ≡ with_all_tested (all ++ more) state
tested_append [] more state = refl
tested_append (one ∷ others) more state =
    tested_append others more (with_tested one.statement one.test state)

pub plain_append : (all more : List Breakpoint) (state : SessionState) →
    with_all_plain more (with_all_plain all state) ≡ with_all_plain (all ++ more) state
plain_append [] more state = refl
plain_append (one ∷ others) more state =
    plain_append others more (with_plain one.statement one.test state)

or_sides : (is : Bool) (test : Option Test) (plain tested : Bool) →
    (((is && is_none test) || plain) || ((is && is_some test) || tested)) ≡ (is || (plain || tested))
or_sides false test plain tested = refl
or_sides true None plain tested = refl
or_sides true (Some test) true tested = refl
or_sides true (Some test) false tested = refl

-- one is asked for with a test or without
plain_or_tested : (k : ℕ) (all : List Breakpoint) →
    (is_plain k all || list_any (λ one. one.statement == k && is_some one.test) all) ≡ is_asked k all
plain_or_tested k [] = refl
plain_or_tested k (one ∷ others) =
    or_sides (one.statement == k) one.test _ _ ∙ ap (λ b. one.statement == k || b) (plain_or_tested k others)

or_false_end : (a b c : Bool) → c ≡ false → (a || (b || c)) ≡ (a || b)
or_false_end true b c none = refl
or_false_end false true c none = refl
or_false_end false false c none = none

option_or_end : (a b : Option Test) → b ≡ None → option_or a b ≡ a
option_or_end None b none = none
option_or_end (Some x) b none = refl

-- all breakpoints are removed, and then those with a test are set, and those without one
abbrev pub set_anew : List Breakpoint → SessionState → SessionState
set_anew all state = with_all_plain all (with_all_tested all (cleared (count_of state) state))

pub set_anew_length : (all : List Breakpoint) (state : SessionState) →
    length (set_anew all state).stop.breakpoints ≡ length state.stop.breakpoints
set_anew_length all state =
    let clear = cleared (count_of state) state in
    (all_plain_lengths all (with_all_tested all clear)).0 ∙ (all_tested_lengths all clear).0
    ∙ cleared_length (count_of state) state

cleared_test_length : (n : ℕ) (state : SessionState) →
    length (cleared n state).stop.tests ≡ length state.stop.tests
cleared_test_length zero state = refl
cleared_test_length (suc n) state = length-set _ _ _ ∙ cleared_test_length n state

pub set_anew_others : (all : List Breakpoint) (state : SessionState) →
    set_anew all state ≡ with_stops_of state (set_anew all state)
set_anew_others all state =
    let clear = cleared (count_of state) state in
    let tested = with_all_tested all clear in
    others_on state tested (set_anew all state)
    (others_on state clear tested (cleared_others (count_of state) state) (all_tested_others all clear))
    (all_plain_others all tested)

-- then one stops at just those, where there are as many tests as breakpoints
pub stops_anew : (all : List Breakpoint) (state : SessionState) →
    length state.stop.tests ≡ length state.stop.breakpoints → StopsJustAt all (set_anew all state)
stops_anew all state same =
    let count = count_of state in
    let clear = cleared count state in
    let tested = with_all_tested all clear in
    let long = cleared_length count state in
    let long_tests = cleared_test_length count state in
    let longer = all_tested_lengths all clear in
    let longest = set_anew_length all state in
    record {
      breakpoints = λ k within.
          all_plain_breakpoints all tested k (omega (arith, within, longest, longer.0, long))
          ∙ ap (λ b. is_plain k all || b) (all_tested_breakpoints all clear k (omega (arith, within, longest, long)))
          ∙ or_false_end (is_plain k all) _ _ (cleared_breakpoints count state k (omega (arith, within, longest)))
          ∙ plain_or_tested k all;
      tests = λ k within.
          all_plain_tests all tested k (omega (arith, within, longest, longer.1, long_tests, same))
          ∙ ap (λ (b : Option Test). if is_plain k all then None else b)
          (all_tested_tests all clear k (omega (arith, within, longest, long_tests, same))
          ∙ option_or_end (last_test k all) _ (cleared_tests count state k (omega (arith, within, longest))));
      temporary = λ k within.
          all_plain_temporary all tested k (all_tested_temporary all clear k
          (cleared_temporary count state k (omega (arith, within, longest))));
    }

-- ---- of a run
-- the same by way of those on cards and those on labels
pub set_both : (cards labels : List Breakpoint) (old clear first tested second new : SessionState) →
    clear ≡ cleared (count_of old) old →
    first ≡ with_all_tested cards clear → tested ≡ with_all_tested labels first →
    second ≡ with_all_plain cards tested → new ≡ with_all_plain labels second →
    new ≡ set_anew (cards ++ labels) old
set_both cards labels old clear first tested second new is_clear is_first is_tested is_second is_new =
    is_new ∙ ap (λ (s : SessionState). with_all_plain labels s) is_second ∙ plain_append cards labels tested
    ∙ ap (λ (s : SessionState). with_all_plain (cards ++ labels) s)
    (is_tested ∙ ap (λ (s : SessionState). with_all_tested labels s) is_first ∙ tested_append cards labels clear
    ∙ ap (λ (s : SessionState). with_all_tested (cards ++ labels) s) is_clear)

pub as_asked : (old new : Debugged) → new ≡ record old { run = new.run } →
    new.run.context ≡ old.run.context →
    length old.run.state.stop.tests ≡ length old.run.state.stop.breakpoints →
    new.run.state ≡ set_anew (old.on_cards ++ old.on_labels) old.run.state → StopsAsAsked old new
as_asked old new others context same is =
    let all = old.on_cards ++ old.on_labels in
    record {
      others = others;
      context = context;
      state = is ∙ set_anew_others all old.run.state
          ∙ ap (λ (s : SessionState). with_stops_of old.run.state s) (sym is);
      statements = ap (λ (s : SessionState). length s.stop.breakpoints) is ∙ set_anew_length all old.run.state;
      stops = subst (λ (s : SessionState). StopsJustAt all s) (sym is) (stops_anew all old.run.state same);
    }

pub as_asked_of : (old inside new : Debugged) → old ≡ inside → StopsAsAsked inside new → StopsAsAsked old new
as_asked_of old inside new same is = subst (λ (it : Debugged). StopsAsAsked it new) (sym same) is
