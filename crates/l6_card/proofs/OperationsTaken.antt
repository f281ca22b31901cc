-- Operations and an exit that items say are taken, and their builder is whole then.
use Rattle.std.proofs.Common.{◌≡◌, ℕ, ◌+◌, ◌≤◌, ◌<◌, List, [], ◌∷◌, ◌++◌, map, length, Bool, true, false, Option, Some, None, Ok, refl, sym, ap, ◌∙◌, arith, length-append, append_assoc, append-nil}
use Rattle.std.specs.Option.{option_map}
use Rattle.std.proofs.lemmas.Bool.{lt-ltb}
use Rattle.l6_prog.specs.Numerals.{most_operations}
use Rattle.l6_prog.specs.declared.condition.Cond.{Cond}
use Rattle.l6_prog.specs.declared.operation.Op.{Op}
use Rattle.l6_prog.specs.declared.exit.Exit.{Exit}
use Rattle.l6_prog.specs.declared.exit.Exit.TheVariants.{Next}
use Rattle.l6_group.specs.declared.label.Label.{Label}
use Rattle.l6_group.specs.Character.{spelled}
use Rattle.l6_group.specs.Operation.{operation_of}
use Rattle.l6_group.specs.Word.{condition_from, exit_from}
use Rattle.l6_card.specs.declared.cards.Placed.{Placed}
use Rattle.l6_card.specs.declared.cards.PlacedLabel.{PlacedLabel}
use Rattle.l6_card.specs.declared.span.Span.{Span}
use Rattle.l6_card.specs.Spans.{group_span}
use Rattle.l6_card.specs.Items.{Item, group, word, unclosed, unopened, PlacedItem, item_on}
use Rattle.l6_card.specs.Statement.{DeckStatementParts, placed_exit}
use Rattle.l6_card.specs.Denotes.{operation_on, exit_on, DenoteOperationsAndExit}
use Rattle.l6_card.specs.inner.StatementBuilder.{StatementBuilder, Phase, New, Worded, Tested, Open, Closed, phase_of, is_whole_in, with_operation, with_placed, with_item, builder_then, builder_of}
use Rattle.l6_card.proofs.OperationsDenoted.{Tests, Operations, builder_at}

-- where operations may be
abbrev takes_operations : Phase → Bool
takes_operations New = true
takes_operations Open = true
takes_operations _ = false

-- an operation is taken where there is room for it
operation_made : (phase : Phase) (card : ℕ) (span : Span) (c : Cond) (tests : Tests)
    (before : Operations)
    (exit : Exit PlacedLabel)
    (found : Option (Op Label)) (one : Placed (Op Label)) →
    length before < most_operations →
    option_map (λ o. record { reading = o; card = card; span = span }) found ≡ Some one →
    with_operation card span (builder_at phase c tests before exit) found
    ≡ Ok (builder_at Open c tests (before ++ one ∷ []) exit)
operation_made phase card span c tests before exit None one room is_one = absurd (cc)
operation_made phase card span c tests before exit (Some operation) one room is_one =
    let same : record { reading = operation; card = card; span = span } ≡ one = cc in
    rw (lt-ltb (length before) most_operations room)
    (ap (λ (o : Placed (Op Label)). Ok (builder_at Open c tests (before ++ o ∷ []) exit)) same)

operation_taken : (phase : Phase) (what : Item) (card : ℕ) (c : Cond) (tests : Tests)
    (before : Operations)
    (exit : Exit PlacedLabel)
    (one : Placed (Op Label)) →
    takes_operations phase ≡ true → length before < most_operations →
    operation_on (item_on card what) ≡ Some one →
    with_item card (builder_at phase c tests before exit) what
    ≡ Ok (builder_at Open c tests (before ++ one ∷ []) exit)
operation_taken New (group offset columns) card c tests before exit one takes room is_one =
    operation_made New card (group_span offset columns) c tests before exit (operation_of columns)
    one room is_one
operation_taken Open (group offset columns) card c tests before exit one takes room is_one =
    operation_made Open card (group_span offset columns) c tests before exit (operation_of columns)
    one room is_one
operation_taken (Worded w) (group offset columns) card c tests before exit one takes room is_one =
    absurd (cc)
operation_taken Tested (group offset columns) card c tests before exit one takes room is_one =
    absurd (cc)
operation_taken Closed (group offset columns) card c tests before exit one takes room is_one =
    absurd (cc)
operation_taken phase (word at past columns) card c tests before exit one takes room is_one = absurd (cc)
operation_taken phase (unclosed at) card c tests before exit one takes room is_one = absurd (cc)
operation_taken phase (unopened at columns) card c tests before exit one takes room is_one =
    absurd (cc)

-- the groups of operations are taken
operations_taken : (groups last : List PlacedItem) (more : Operations) (c : Cond) (tests : Tests)
    (before : Operations)
    (exit : Exit PlacedLabel) →
    map operation_on groups ≡ map Some more → length before + length more ≤ most_operations →
    builder_of (builder_at Open c tests before exit) (groups ++ last)
    ≡ builder_of (builder_at Open c tests (before ++ more) exit) last
operations_taken [] last [] c tests before exit are room =
    ap (λ (os : Operations). builder_of (builder_at Open c tests os exit) last)
    (sym (append-nil before))
operations_taken [] last (one ∷ more) c tests before exit are room = absurd (cc)
operations_taken (i ∷ groups) last [] c tests before exit are room = absurd (cc)
operations_taken (i ∷ groups) last (one ∷ more) c tests before exit are room =
    let head : operation_on i ≡ Some one = cc (are) in
    let tail : map operation_on groups ≡ map Some more = cc (are) in
    let taken =
    operation_taken Open i.what i.card c tests before exit one refl (omega arith) head in
    ap (λ r. builder_then r (λ next. builder_of next (groups ++ last))) taken
    ∙ operations_taken groups last more c tests (before ++ one ∷ []) exit tail
    (omega (arith, length-append before (one ∷ [])))
    ∙ ap (λ (os : Operations). builder_of (builder_at Open c tests os exit) last)
    (append_assoc before (one ∷ []) more)

-- the builder that the end of a statement makes
pub record Ended (builder : StatementBuilder) (last : List PlacedItem) (c : Cond) (tests : Tests)
    (operations : Operations) (exit : Exit PlacedLabel) : Type 0 where
  pub phase : Phase
  pub whole : is_whole_in phase ≡ true
  pub made : builder_of builder last ≡ Some (builder_at phase c tests operations exit)

exit_made : (card : ℕ) (builder : StatementBuilder) (phase : Phase) (given : Option (Exit Label))
    (exit : Exit PlacedLabel) →
    option_map (placed_exit card) given ≡ Some exit →
    with_placed card builder phase given ≡ Ok (record builder { phase = phase; exit = exit })
exit_made card builder phase None exit is_exit = absurd (cc)
exit_made card builder phase (Some given) exit is_exit =
    let same : placed_exit card given ≡ exit = cc in
    ap (λ (e : Exit PlacedLabel). Ok (record builder { phase = phase; exit = e })) same

first_phase_whole : (found : Option Cond) → is_whole_in (phase_of found) ≡ true
first_phase_whole None = refl
first_phase_whole (Some w) = refl

last_taken : (phase : Phase) (what : Item) (card : ℕ) (c : Cond) (tests : Tests)
    (operations : Operations)
    (exit : Exit PlacedLabel) →
    takes_operations phase ≡ true →
    exit_on (item_on card what ∷ []) ≡ Some exit →
    Ended (builder_at phase c tests operations Next) (item_on card what ∷ []) c tests operations exit
last_taken New (word at past columns) card c tests operations exit takes is_exit =
    let phase = phase_of (condition_from (spelled columns)) in
    let builder = builder_at New c tests operations Next in
    record {
      phase = phase;
      whole = first_phase_whole (condition_from (spelled columns));
      made = ap (λ r. builder_then r (λ next. Some next))
          (exit_made card builder phase (exit_from (spelled columns)) exit is_exit);
    }
last_taken Open (word at past columns) card c tests operations exit takes is_exit =
    let builder = builder_at Open c tests operations Next in
    record {
      phase = Closed;
      whole = refl;
      made = ap (λ r. builder_then r (λ next. Some next))
          (exit_made card builder Closed (exit_from (spelled columns)) exit is_exit);
    }
last_taken (Worded w) (word at past columns) card c tests operations exit takes is_exit = absurd (cc)
last_taken Tested (word at past columns) card c tests operations exit takes is_exit = absurd (cc)
last_taken Closed (word at past columns) card c tests operations exit takes is_exit = absurd (cc)
last_taken phase (group offset columns) card c tests operations exit takes is_exit = absurd (cc)
last_taken phase (unclosed at) card c tests operations exit takes is_exit = absurd (cc)
last_taken phase (unopened at columns) card c tests operations exit takes is_exit = absurd (cc)

whole_there : (phase : Phase) → takes_operations phase ≡ true → is_whole_in phase ≡ true
whole_there New takes = refl
whole_there Open takes = refl
whole_there (Worded w) takes = absurd (cc)
whole_there Tested takes = absurd (cc)
whole_there Closed takes = absurd (cc)

end_taken : (phase : Phase) (last : List PlacedItem) (c : Cond) (tests : Tests)
    (operations : Operations)
    (exit : Exit PlacedLabel) →
    takes_operations phase ≡ true → exit_on last ≡ Some exit →
    Ended (builder_at phase c tests operations Next) last c tests operations exit
end_taken phase [] c tests operations exit takes is_exit =
    let same : Next ≡ exit = cc (is_exit) in
    record {
      phase = phase;
      whole = whole_there phase takes;
      made = ap (λ (e : Exit PlacedLabel). Some (builder_at phase c tests operations e)) same;
    }
end_taken phase (i ∷ []) c tests operations exit takes is_exit =
    last_taken phase i.what i.card c tests operations exit takes is_exit
end_taken phase (i ∷ j ∷ last) c tests operations exit takes is_exit = absurd (cc)

-- what an end makes is made of what leads there too
pub also_made : (builder other : StatementBuilder) (items last : List PlacedItem) (c : Cond) (tests : Tests)
    (operations : Operations) (exit : Exit PlacedLabel) →
    builder_of builder items ≡ builder_of other last → Ended other last c tests operations exit →
    Ended builder items c tests operations exit
also_made builder other items last c tests operations exit leads ended =
    record { phase = ended.phase; whole = ended.whole; made = leads ∙ ended.made }

-- operations and an exit are taken
groups_taken : (phase : Phase) (groups last : List PlacedItem) (c : Cond) (tests : Tests)
    (operations : Operations) (exit : Exit PlacedLabel) →
    takes_operations phase ≡ true →
    map operation_on groups ≡ map Some operations → length operations ≤ most_operations →
    exit_on last ≡ Some exit →
    Ended (builder_at phase c tests [] Next) (groups ++ last) c tests operations exit
groups_taken phase [] last c tests [] exit takes are room is_exit =
    end_taken phase last c tests [] exit takes is_exit
groups_taken phase [] last c tests (one ∷ more) exit takes are room is_exit = absurd (cc)
groups_taken phase (i ∷ groups) last c tests [] exit takes are room is_exit = absurd (cc)
groups_taken phase (i ∷ groups) last c tests (one ∷ more) exit takes are room is_exit =
    let head : operation_on i ≡ Some one = cc (are) in
    let tail : map operation_on groups ≡ map Some more = cc (are) in
    let taken =
    operation_taken phase i.what i.card c tests [] Next one takes (omega arith) head in
    also_made (builder_at phase c tests [] Next) (builder_at Open c tests (one ∷ more) Next)
    (i ∷ groups ++ last) last c tests (one ∷ more) exit
    (ap (λ r. builder_then r (λ next. builder_of next (groups ++ last))) taken
    ∙ operations_taken groups last more c tests (one ∷ []) Next tail (omega arith))
    (end_taken Open last c tests (one ∷ more) exit refl is_exit)

pub denoted_taken : (phase : Phase) (items : List PlacedItem) (c : Cond) (tests : Tests)
    (statement : DeckStatementParts) →
    takes_operations phase ≡ true → length statement.operations ≤ most_operations →
    DenoteOperationsAndExit items statement →
    Ended (builder_at phase c tests [] Next) items c tests statement.operations statement.exit
denoted_taken phase items c tests statement takes room denote =
    also_made (builder_at phase c tests [] Next) (builder_at phase c tests [] Next) items
    (denote.groups ++ denote.last) c tests statement.operations statement.exit
    (ap (builder_of (builder_at phase c tests [] Next)) denote.in_order)
    (groups_taken phase denote.groups denote.last c tests statement.operations statement.exit takes
    denote.operations room denote.exit)
