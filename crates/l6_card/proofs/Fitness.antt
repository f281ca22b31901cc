-- What every builder has, and that a statement whose builder is whole is fit for a program.
use Rattle.std.proofs.Common.{◌≡◌, ℕ, ◌+◌, ◌≤◌, List, [], ◌∷◌, ◌++◌, length, Bool, true, false, cond, ltb, leb, eqb, Option, Some, None, Result, Ok, Err, refl, sym, ap, ◌∙◌, subst, arith, length-append}
use Rattle.std.specs.Prelude.{◌&&◌}
use Rattle.std.specs.List.{list_all}
use Rattle.std.specs.Str.{bytes_eq}
use Rattle.std.specs.Prelude.{codes}
use Rattle.std.proofs.lemmas.Bool.{ltb-true, eqb-true, le-leb, lt-ltb, and_from, and_parts}
use Rattle.l6_prog.specs.Numerals.{most_tests, most_operations}
use Rattle.l6_prog.specs.Program.{may_have}
use Rattle.l6_prog.specs.declared.condition.Cond.{Cond}
use Rattle.l6_prog.specs.declared.condition.Cond.TheVariants.{Always, If, Not, IfAll, IfAny, IfNone, IfNotAll}
use Rattle.l6_prog.specs.declared.condition.Test.{Test}
use Rattle.l6_prog.specs.declared.operation.Op.{Op}
use Rattle.l6_prog.specs.declared.exit.Exit.{Exit}
use Rattle.l6_prog.specs.declared.exit.Exit.TheVariants.{Next}
use Rattle.l6_group.specs.declared.label.Label.{Label}
use Rattle.l6_group.specs.Spelling.{Line, find_spelled}
use Rattle.l6_group.specs.Character.{spelled}
use Rattle.l6_group.specs.Operation.{operation_of}
use Rattle.l6_group.specs.Test.{test_of}
use Rattle.l6_group.specs.Word.{conditions, condition_from, exit_from, after_then}
use Rattle.l6_card.specs.declared.cards.Placed.{Placed}
use Rattle.l6_card.specs.declared.cards.PlacedLabel.{PlacedLabel}
use Rattle.l6_card.specs.declared.span.Span.{Span}
use Rattle.l6_card.specs.Spans.{group_span}
use Rattle.l6_card.specs.DeckFault.{DeckFault}
use Rattle.l6_card.specs.Items.{Item, group, word, unclosed, unopened, PlacedItem}
use Rattle.l6_card.specs.Statement.{placed_exit, is_fit}
use Rattle.l6_card.specs.inner.StatementBuilder.{StatementBuilder, Phase, New, Worded, Tested, Open, Closed, new_builder, is_whole_in, is_whole, statement_from, phase_of, with_operation, with_test, with_further_test, with_placed, with_rest, with_word_in, with_group_in, with_item, builder_of}
use Rattle.l6_card.proofs.Steps.{is_prefix}

-- a builder in this phase may have this condition with so many tests
abbrev pub is_sound_in : Phase → Cond → ℕ → Bool
is_sound_in New Always tests = eqb tests 0
is_sound_in New _ tests = false
is_sound_in (Worded condition) Always tests = eqb tests 0 && may_have condition 1
is_sound_in (Worded condition) _ tests = false
is_sound_in Tested condition tests = ltb 0 tests && may_have condition tests
is_sound_in Open condition tests = may_have condition tests
is_sound_in Closed condition tests = may_have condition tests

-- a builder in this phase may have so many operations: none before they may begin
abbrev pub IsFreshIn : Phase → ℕ → Type 0
IsFreshIn New operations = operations ≡ 0
IsFreshIn (Worded condition) operations = operations ≡ 0
IsFreshIn Tested operations = operations ≡ 0
IsFreshIn Open operations = Unit {0}
IsFreshIn Closed operations = Unit {0}

-- what every builder has
pub record IsSound (builder : StatementBuilder) : Type 0 where
  pub tests : length builder.tests ≤ most_tests
  pub operations : length builder.operations ≤ most_operations
  pub condition : is_sound_in builder.phase builder.condition (length builder.tests) ≡ true
  pub fresh : IsFreshIn builder.phase (length builder.operations)

-- a test that decided for what is known
pub record Decided {A : Type 0} (holds : Bool) (one other : A) : Type 0 where
  pub holds_so : holds ≡ true
  pub same : one ≡ other

pub decided : {A E : Type 0} (holds : Bool) (one other : A) (fault : E) →
    ◌≡◌ {A = Result A E} (cond holds (Ok one) (Err fault)) (Ok other) → Decided holds one other
decided true one other fault so = record { holds_so = refl; same = cc }
decided false one other fault so = absurd (cc)

sound_open : (phase : Phase) (condition : Cond) (tests : ℕ) →
    is_sound_in phase condition tests ≡ true → is_whole_in phase ≡ true →
    may_have condition tests ≡ true
sound_open New Always tests sound whole = sound
sound_open New If tests sound whole = absurd (cc)
sound_open New Not tests sound whole = absurd (cc)
sound_open New IfAll tests sound whole = absurd (cc)
sound_open New IfAny tests sound whole = absurd (cc)
sound_open New IfNone tests sound whole = absurd (cc)
sound_open New IfNotAll tests sound whole = absurd (cc)
sound_open (Worded w) Always tests sound whole = (and_parts (eqb tests 0) (may_have w 1) sound).0
sound_open (Worded w) If tests sound whole = absurd (cc)
sound_open (Worded w) Not tests sound whole = absurd (cc)
sound_open (Worded w) IfAll tests sound whole = absurd (cc)
sound_open (Worded w) IfAny tests sound whole = absurd (cc)
sound_open (Worded w) IfNone tests sound whole = absurd (cc)
sound_open (Worded w) IfNotAll tests sound whole = absurd (cc)
sound_open Tested condition tests sound whole = absurd (cc)
sound_open Open condition tests sound whole = sound
sound_open Closed condition tests sound whole = sound

-- an operation leaves a sound builder, where the condition may have its tests
operation_sound : (card : ℕ) (span : Span) (builder next : StatementBuilder)
    (found : Option (Op Label)) →
    IsSound builder → may_have builder.condition (length builder.tests) ≡ true →
    with_operation card span builder found ≡ Ok next → IsSound next
operation_sound card span builder next None sound fit made = absurd (cc)
operation_sound card span builder next (Some operation) sound fit made =
    let more = builder.operations ++ record { reading = operation; card = card; span = span } ∷ [] in
    let so = decided {E =
    DeckFault} (ltb (length builder.operations) most_operations) (record builder {
      phase =
          Open;
      operations = more;
    }) next _ made in
    let room = ltb-true (length builder.operations) most_operations so.holds_so in
    subst IsSound so.same (record {
      tests = sound.tests;
      operations =
          omega (
            arith,
            length-append builder.operations (record {
              reading = operation;
              card = card;
              span = span;
            } ∷ []),
          );
      condition = fit;
      fresh = tt;
    })

-- a test leaves a sound builder, where the condition may have one more
test_sound : (card : ℕ) (span : Span) (builder next : StatementBuilder) (condition : Cond)
    (found : Option Test)
    →
    IsSound builder → length builder.operations ≡ 0 →
    may_have condition (length builder.tests + 1) ≡ true →
    with_test card span builder condition found ≡ Ok next → IsSound next
test_sound card span builder next condition None sound fresh fit made = absurd (cc)
test_sound card span builder next condition (Some test) sound fresh fit made =
    let one : Placed Test = record { reading = test; card = card; span = span } in
    let more = builder.tests ++ one ∷ [] in
    let so = decided {E = DeckFault} (ltb (length builder.tests) most_tests)
    (record builder {
      phase = Tested;
      condition = condition;
      tests = more;
      exit =
          Next;
    }) next _ made in
    let room = ltb-true (length builder.tests) most_tests so.holds_so in
    let count : length more ≡ length builder.tests + 1 =
    omega (arith, length-append builder.tests (one ∷ [])) in
    subst IsSound so.same (record {
      tests = omega (arith, count);
      operations = sound.operations;
      condition = and_from (ltb 0 (length more)) (may_have condition (length more))
          (lt-ltb 0 (length more) (omega (arith, count)))
          (ap (may_have condition) count ∙ fit);
      fresh = fresh;
    })

-- an exit leaves a sound builder, in a phase that the condition and its tests fit
exit_sound : (card : ℕ) (builder next : StatementBuilder) (phase : Phase)
    (found : Option (Exit Label)) →
    IsSound builder → is_sound_in phase builder.condition (length builder.tests) ≡ true →
    IsFreshIn phase (length builder.operations) →
    with_placed card builder phase found ≡ Ok next → IsSound next
exit_sound card builder next phase None sound fit fresh made = absurd (cc)
exit_sound card builder next phase (Some given) sound fit fresh made =
    let same : record builder { phase = phase; exit = placed_exit card given } ≡ next = cc in
    subst IsSound same (record {
      tests = sound.tests;
      operations = sound.operations;
      condition =
          fit;
      fresh = fresh;
    })

-- each condition of the table needs a test
needs_test : (here : Bool) (condition found : Cond) (others : Option Cond) →
    may_have condition 1 ≡ true → (others ≡ Some found → may_have found 1 ≡ true) →
    cond here (Some condition) others ≡ Some found → may_have found 1 ≡ true
needs_test true condition found others needs later is_found =
    let same : condition ≡ found = cc in
    ap (λ w. may_have w 1) (sym same) ∙ needs
needs_test false condition found others needs later is_found = later is_found

pub found_needs_test : (lines : List (Line Cond)) (characters : List ℕ) (found : Cond) →
    list_all (λ (line : Line Cond). may_have line.meaning 1) lines ≡ true →
    find_spelled lines characters ≡ Some found → may_have found 1 ≡ true
found_needs_test [] characters found each is_found = absurd (cc)
found_needs_test (line ∷ lines) characters found each is_found =
    let parts =
    and_parts (may_have line.meaning 1) (list_all (λ (l : Line Cond). may_have l.meaning 1) lines)
    each in
    needs_test (bytes_eq (codes line.spelling) characters) line.meaning found
    (find_spelled lines characters)
    parts.0 (found_needs_test lines characters found parts.1) is_found

-- a first word leads to a phase that no tests fit
first_fits : (found : Option Cond) (condition : Cond) (tests : ℕ) →
    ((w : Cond) → found ≡ Some w → may_have w 1 ≡ true) →
    is_sound_in New condition tests ≡ true → is_sound_in (phase_of found) condition tests ≡ true
first_fits None Always tests needs sound = sound
first_fits (Some w) Always tests needs sound =
    and_from (eqb tests 0) (may_have w 1) sound (needs w refl)
first_fits found If tests needs sound = absurd (cc)
first_fits found Not tests needs sound = absurd (cc)
first_fits found IfAll tests needs sound = absurd (cc)
first_fits found IfAny tests needs sound = absurd (cc)
first_fits found IfNone tests needs sound = absurd (cc)
first_fits found IfNotAll tests needs sound = absurd (cc)

first_fresh : (found : Option Cond) (operations : ℕ) → operations ≡ 0 →
    IsFreshIn (phase_of found) operations
first_fresh None operations none = tt
first_fresh (Some w) operations none = none

-- a word that is a condition may have its first test
pub worded_fits : (w condition : Cond) (tests : ℕ) →
    is_sound_in (Worded w) condition tests ≡ true → may_have w (tests + 1) ≡ true
worded_fits w Always tests sound =
    let parts = and_parts (eqb tests 0) (may_have w 1) sound in
    let none = eqb-true tests 0 parts.0 in
    ap (λ n. may_have w (n + 1)) none ∙ parts.1
worded_fits w If tests sound = absurd (cc)
worded_fits w Not tests sound = absurd (cc)
worded_fits w IfAll tests sound = absurd (cc)
worded_fits w IfAny tests sound = absurd (cc)
worded_fits w IfNone tests sound = absurd (cc)
worded_fits w IfNotAll tests sound = absurd (cc)

pub tested_always : (tests : ℕ) → is_sound_in Tested Always tests ≡ true → ⊥
tested_always tests fit =
    let parts = and_parts (ltb 0 tests) (eqb tests 0) fit in
    let some = ltb-true 0 tests parts.0 in
    let none = eqb-true tests 0 parts.1 in
    absurd (omega arith)

-- a further test
further_sound : (card : ℕ) (span : Span) (builder next : StatementBuilder) (condition : Cond)
    (found : Option Test) →
    IsSound builder → length builder.operations ≡ 0 →
    is_sound_in Tested condition (length builder.tests) ≡ true →
    with_further_test card span builder condition found ≡ Ok next → IsSound next
further_sound card span builder next Always found sound fresh fit made =
    absurd (tested_always (length builder.tests) fit)
further_sound card span builder next If found sound fresh fit made = absurd (cc)
further_sound card span builder next Not found sound fresh fit made = absurd (cc)
further_sound card span builder next IfAll found sound fresh fit made =
    test_sound card span builder next IfAll found sound fresh
    (lt-ltb 0 (length builder.tests + 1) (omega arith)) made
further_sound card span builder next IfAny found sound fresh fit made =
    test_sound card span builder next IfAny found sound fresh
    (lt-ltb 0 (length builder.tests + 1) (omega arith)) made
further_sound card span builder next IfNone found sound fresh fit made =
    test_sound card span builder next IfNone found sound fresh
    (lt-ltb 0 (length builder.tests + 1) (omega arith)) made
further_sound card span builder next IfNotAll found sound fresh fit made =
    test_sound card span builder next IfNotAll found sound fresh
    (lt-ltb 0 (length builder.tests + 1) (omega arith)) made

-- what follows THEN
rest_sound : (card : ℕ) (builder next : StatementBuilder) (found : Option (List ℕ)) →
    IsSound builder → may_have builder.condition (length builder.tests) ≡ true →
    with_rest card builder found ≡ Ok next → IsSound next
rest_sound card builder next None sound fit made = absurd (cc)
rest_sound card builder next (Some []) sound fit made =
    let same : record builder { phase = Open } ≡ next = cc in
    subst IsSound same (record {
      tests = sound.tests;
      operations = sound.operations;
      condition =
          fit;
      fresh = tt;
    })
rest_sound card builder next (Some (first ∷ rest)) sound fit made =
    exit_sound card builder next Closed (exit_from (first ∷ rest)) sound fit tt made

group_sound : (phase : Phase) (card : ℕ) (span : Span) (builder next : StatementBuilder)
    (columns : List ℕ) →
    IsSound builder → is_sound_in phase builder.condition (length builder.tests) ≡ true →
    IsFreshIn phase (length builder.operations) →
    with_group_in phase card span builder columns ≡ Ok next → IsSound next
group_sound New card span builder next columns sound fit fresh made =
    operation_sound card span builder next (operation_of columns) sound
    (sound_open New builder.condition (length builder.tests) fit refl) made
group_sound Open card span builder next columns sound fit fresh made =
    operation_sound card span builder next (operation_of columns) sound fit made
group_sound (Worded w) card span builder next columns sound fit fresh made =
    test_sound card span builder next w (test_of columns) sound fresh
    (worded_fits w builder.condition (length builder.tests) fit) made
group_sound Tested card span builder next columns sound fit fresh made =
    further_sound card span builder next builder.condition (test_of columns) sound fresh fit made
group_sound Closed card span builder next columns sound fit fresh made = absurd (cc)

word_sound : (phase : Phase) (card : ℕ) (builder next : StatementBuilder) (characters : List ℕ) →
    IsSound builder → is_sound_in phase builder.condition (length builder.tests) ≡ true →
    IsFreshIn phase (length builder.operations) →
    with_word_in phase card builder characters ≡ Ok next → IsSound next
word_sound New card builder next characters sound fit fresh made =
    exit_sound card builder next (phase_of (condition_from characters)) (exit_from characters) sound
    (first_fits (condition_from characters) builder.condition (length builder.tests)
    (λ w is_found. found_needs_test conditions characters w refl is_found) fit)
    (first_fresh (condition_from characters) (length builder.operations) fresh) made
word_sound Open card builder next characters sound fit fresh made =
    exit_sound card builder next Closed (exit_from characters) sound fit tt made
word_sound Tested card builder next characters sound fit fresh made =
    let parts =
    and_parts (ltb 0 (length builder.tests)) (may_have builder.condition (length builder.tests)) fit in
    rest_sound card builder next (after_then characters) sound parts.1 made
word_sound (Worded w) card builder next characters sound fit fresh made = absurd (cc)
word_sound Closed card builder next characters sound fit fresh made = absurd (cc)

pub item_sound : (card : ℕ) (builder next : StatementBuilder) (i : Item) →
    IsSound builder → with_item card builder i ≡ Ok next → IsSound next
item_sound card builder next (group offset columns) sound made =
    group_sound builder.phase card (group_span offset columns) builder next columns sound
    sound.condition sound.fresh made
item_sound card builder next (word at past columns) sound made =
    word_sound builder.phase card builder next (spelled columns) sound sound.condition sound.fresh made
item_sound card builder next (unclosed at) sound made = absurd (cc)
item_sound card builder next (unopened at columns) sound made = absurd (cc)

pub items_sound : (items : List PlacedItem) (builder final : StatementBuilder) →
    IsSound builder → builder_of builder items ≡ Some final → IsSound final
items_sound [] builder final sound made =
    let same : builder ≡ final = cc in
    subst IsSound same sound
items_sound (i ∷ items) builder final sound made =
    let first = is_prefix (with_item i.card builder i.what)
    (λ next. builder_of next items) final made in
    items_sound items first.next final
    (item_sound i.card builder first.next i.what sound first.is_made) first.rest

-- the builder of a statement without items is sound
pub new_sound : IsSound new_builder
new_sound =
    record { tests = omega arith; operations = omega arith; condition = refl; fresh = refl }

-- a statement whose builder is whole is fit
pub statement_fit : (given : Option PlacedLabel) (builder : StatementBuilder) →
    IsSound builder → is_whole builder ≡ true → is_fit (statement_from given builder) ≡ true
statement_fit given builder sound whole =
    let tests = le-leb (length builder.tests) most_tests sound.tests in
    let operations = le-leb (length builder.operations) most_operations sound.operations in
    let condition =
    sound_open builder.phase builder.condition (length builder.tests) sound.condition whole in
    and_from
    (leb (length builder.tests) most_tests && leb (length builder.operations) most_operations)
    (may_have builder.condition (length builder.tests))
    (and_from (leb (length builder.tests) most_tests) (leb (length builder.operations) most_operations)
    tests operations)
    condition
