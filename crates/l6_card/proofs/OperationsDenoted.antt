-- What items say of operations and an exit, by the builder that they make.
use Rattle.std.proofs.Common.{◌≡◌, ℕ, List, [], ◌∷◌, ◌++◌, map, length, ltb, Option, Some, None, Ok, refl, sym, ap, ◌∙◌, append_assoc, append-nil}
use Rattle.std.specs.Option.{option_map}
use Rattle.l6_prog.specs.Numerals.{most_operations}
use Rattle.l6_prog.specs.declared.condition.Cond.{Cond}
use Rattle.l6_prog.specs.declared.condition.Test.{Test}
use Rattle.l6_prog.specs.declared.operation.Op.{Op}
use Rattle.l6_prog.specs.declared.exit.Exit.{Exit}
use Rattle.l6_prog.specs.declared.exit.Exit.TheVariants.{Next}
use Rattle.l6_group.specs.declared.label.Label.{Label}
use Rattle.l6_group.specs.Character.{spelled}
use Rattle.l6_group.specs.Operation.{operation_of}
use Rattle.l6_group.specs.Word.{exit_from}
use Rattle.l6_card.specs.declared.cards.Placed.{Placed}
use Rattle.l6_card.specs.declared.cards.PlacedLabel.{PlacedLabel}
use Rattle.l6_card.specs.declared.span.Span.{Span}
use Rattle.l6_card.specs.Spans.{group_span}
use Rattle.l6_card.specs.DeckFault.{DeckFault}
use Rattle.l6_card.specs.Items.{Item, group, word, unclosed, unopened, PlacedItem, item_on}
use Rattle.l6_card.specs.Statement.{placed_exit}
use Rattle.l6_card.specs.Denotes.{operation_on, exit_on}
use Rattle.l6_card.specs.inner.StatementBuilder.{StatementBuilder, Phase, Open, Closed, with_operation, with_placed, with_item, builder_then, builder_of}
use Rattle.l6_card.proofs.Steps.{is_prefix}
use Rattle.l6_card.proofs.Fitness.{decided}

abbrev pub Tests : Type 0
Tests = List (Placed Test)

abbrev pub Operations : Type 0
Operations = List (Placed (Op Label))

abbrev pub builder_at : Phase → Cond → Tests → Operations → Exit PlacedLabel → StatementBuilder
builder_at phase c tests operations exit =
    record {
      phase = phase;
      condition = c;
      tests = tests;
      operations = operations;
      exit = exit;
    }

-- a builder with its exit was made of no further items
record Ends (items : List PlacedItem) (builder final : StatementBuilder) : Type 0 where
  none : items ≡ []
  same : builder ≡ final

closed_item : (what : Item) (card : ℕ) (c : Cond) (tests : Tests) (operations : Operations)
    (exit : Exit PlacedLabel)
    (step : StatementBuilder → Option StatementBuilder) (final : StatementBuilder) →
    builder_then (with_item card (builder_at Closed c tests operations exit) what) step ≡ Some final →
    ⊥
closed_item (group offset columns) card c tests operations exit step final made = cc
closed_item (word at past columns) card c tests operations exit step final made = cc
closed_item (unclosed at) card c tests operations exit step final made = cc
closed_item (unopened at columns) card c tests operations exit step final made = cc

closed_denoted : (items : List PlacedItem) (c : Cond) (tests : Tests) (operations : Operations)
    (exit : Exit PlacedLabel) (final : StatementBuilder) →
    builder_of (builder_at Closed c tests operations exit) items ≡ Some final →
    Ends items (builder_at Closed c tests operations exit) final
closed_denoted [] c tests operations exit final made = record { none = refl; same = cc }
closed_denoted (i ∷ items) c tests operations exit final made =
    absurd (closed_item i.what i.card c tests operations exit (λ next. builder_of next items) final
    made)

-- what items say after operations
pub record OpenSaid (items : List PlacedItem) (c : Cond) (tests : Tests) (before : Operations)
    (final : StatementBuilder) : Type 0 where
  pub groups : List PlacedItem
  pub last : List PlacedItem
  pub more : Operations
  pub in_order : items ≡ groups ++ last
  pub operations : map operation_on groups ≡ map Some more
  pub all : final.operations ≡ before ++ more
  pub exit : exit_on last ≡ Some final.exit
  pub condition : final.condition ≡ c
  pub same_tests : final.tests ≡ tests

-- the last item is the exit
pub exit_denoted : (i : PlacedItem) (items : List PlacedItem) (c : Cond) (tests : Tests)
    (before : Operations)
    (given : Exit Label) (final : StatementBuilder) →
    exit_on (i ∷ []) ≡ Some (placed_exit i.card given) →
    builder_of (builder_at Closed c tests before (placed_exit i.card given)) items ≡ Some final →
    OpenSaid (i ∷ items) c tests before final
exit_denoted i items c tests before given final is_exit made =
    let over = closed_denoted items c tests before (placed_exit i.card given) final made in
    record {
      groups = [];
      last = i ∷ [];
      more = [];
      in_order = ap (λ is. i ∷ is) over.none;
      operations = refl;
      all = ap (λ (d : StatementBuilder). d.operations) (sym over.same) ∙ sym (append-nil before);
      exit = is_exit ∙ ap (λ (d : StatementBuilder). Some d.exit) over.same;
      condition = ap (λ (d : StatementBuilder). d.condition) (sym over.same);
      same_tests = ap (λ (d : StatementBuilder). d.tests) (sym over.same);
    }

-- the first item is an operation
pub operation_denoted : (i : PlacedItem) (items : List PlacedItem) (c : Cond) (tests : Tests)
    (before : Operations) (one : Placed (Op Label)) (final : StatementBuilder) →
    operation_on i ≡ Some one →
    OpenSaid items c tests (before ++ one ∷ []) final → OpenSaid (i ∷ items) c tests before final
operation_denoted i items c tests before one final is_one later =
    record {
      groups = i ∷ later.groups;
      last = later.last;
      more = one ∷ later.more;
      in_order = ap (λ is. i ∷ is) later.in_order;
      operations = cc (is_one, later.operations);
      all = later.all ∙ append_assoc before (one ∷ []) later.more;
      exit = later.exit;
      condition = later.condition;
      same_tests = later.same_tests;
    }

-- an operation that was taken
pub record Operated (card : ℕ) (span : Span) (builder : StatementBuilder) (found : Option (Op Label))
    (next : StatementBuilder)
    : Type 0 where
  pub operation : Op Label
  pub is_found : found ≡ Some operation
  pub same : next ≡ record builder {
    phase = Open;
    operations = builder.operations ++ record { reading = operation; card = card; span = span } ∷ [];
  }

pub operated : (card : ℕ) (span : Span) (builder : StatementBuilder) (found : Option (Op Label))
    (next : StatementBuilder) →
    with_operation card span builder found ≡ Ok next → Operated card span builder found next
operated card span builder None next made = absurd (cc)
operated card span builder (Some operation) next made =
    let so = decided {E = DeckFault} (ltb (length builder.operations) most_operations)
    (record builder {
      phase = Open;
      operations = builder.operations ++ record { reading = operation; card = card; span = span } ∷
          [];
    }) next _ made in
    record { operation = operation; is_found = refl; same = sym so.same }

-- an exit that was taken
pub record Exited (card : ℕ) (builder : StatementBuilder) (phase : Phase) (found : Option (Exit Label))
    (next : StatementBuilder) : Type 0 where
  pub given : Exit Label
  pub is_found : found ≡ Some given
  pub same : next ≡ record builder { phase = phase; exit = placed_exit card given }

pub exited : (card : ℕ) (builder : StatementBuilder) (phase : Phase) (found : Option (Exit Label))
    (next : StatementBuilder) →
    with_placed card builder phase found ≡ Ok next → Exited card builder phase found next
exited card builder phase None next made = absurd (cc)
exited card builder phase (Some given) next made =
    record { given = given; is_found = refl; same = cc }

open_item : (what : Item) (card : ℕ) (items : List PlacedItem) (c : Cond) (tests : Tests)
    (before : Operations) (final : StatementBuilder) →
    ((more : Operations) → builder_of (builder_at Open c tests more Next) items ≡ Some final →
    OpenSaid items c tests more final) →
    builder_then (with_item card (builder_at Open c tests before Next) what)
    (λ next. builder_of next items)
    ≡ Some final →
    OpenSaid (item_on card what ∷ items) c tests before final
open_item (group offset columns) card items c tests before final each made =
    let builder = builder_at Open c tests before Next in
    let first =
    is_prefix (with_operation card (group_span offset columns) builder (operation_of columns))
    (λ next. builder_of next items) final
    made in
    let one = operated card (group_span offset columns) builder (operation_of columns) first.next
    first.is_made in
    let placed : Placed (Op Label) = record
    { reading = one.operation; card = card; span = group_span offset columns } in
    operation_denoted (item_on card (group offset columns)) items c tests before placed final
    (ap (option_map (λ o. record { reading = o; card = card; span = group_span offset columns }))
    one.is_found)
    (each (before ++ placed ∷ [])
    (ap (λ (d : StatementBuilder). builder_of d items) (sym one.same) ∙ first.rest))
open_item (word at past columns) card items c tests before final each made =
    let builder = builder_at Open c tests before Next in
    let first =
    is_prefix (with_placed card builder Closed (exit_from (spelled columns)))
    (λ next. builder_of next items) final made in
    let one =
    exited card builder Closed (exit_from (spelled columns)) first.next first.is_made in
    exit_denoted (item_on card (word at past columns)) items c tests before one.given final
    (ap (option_map (placed_exit card)) one.is_found)
    (ap (λ (d : StatementBuilder). builder_of d items) (sym one.same) ∙ first.rest)
open_item (unclosed at) card items c tests before final each made = absurd (cc)
open_item (unopened at columns) card items c tests before final each made = absurd (cc)

pub open_denoted : (items : List PlacedItem) (c : Cond) (tests : Tests) (before : Operations)
    (final : StatementBuilder) →
    builder_of (builder_at Open c tests before Next) items ≡ Some final →
    OpenSaid items c tests before final
open_denoted [] c tests before final made =
    let same : builder_at Open c tests before Next ≡ final = cc in
    record {
      groups = [];
      last = [];
      more = [];
      in_order = refl;
      operations = refl;
      all = ap (λ (d : StatementBuilder). d.operations) (sym same) ∙ sym (append-nil before);
      exit = ap (λ (d : StatementBuilder). Some d.exit) same;
      condition = ap (λ (d : StatementBuilder). d.condition) (sym same);
      same_tests = ap (λ (d : StatementBuilder). d.tests) (sym same);
    }
open_denoted (i ∷ items) c tests before final made =
    open_item i.what i.card items c tests before final
    (λ more makes. open_denoted items c tests more final makes) made
