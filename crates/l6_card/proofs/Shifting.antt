-- How many statements are over before a part changes nothing of its pieces but where one begins.
use Rattle.std.proofs.Common.{◌≡◌, ℕ, ◌+◌, Bool, true, false, cond, ltb, List, [], ◌∷◌, ◌++◌, length, Option, Some, None, Result, Ok, Err, arith, refl, sym, ap, ◌∙◌}
use Rattle.std.specs.Option.{is_some}
use Rattle.std.specs.Prelude.{not}
use Rattle.l6_card.specs.Numerals.{most_deck_statements, most_continuations}
use Rattle.l6_card.specs.declared.objection.Objection.{Objection}
use Rattle.l6_card.specs.declared.objection.Reason.TheVariants.{Unfinished, TooManyStatements, TooManyContinuations, TooManyGroups}
use Rattle.l6_card.specs.Objection.{objects, card_objects, item_objects, label_reason}
use Rattle.l6_card.specs.Order.{expected_after, reason_at}
use Rattle.l6_card.specs.Card.{Body}
use Rattle.l6_card.specs.Items.{Item, item_on}
use Rattle.l6_card.specs.Form.{are_whole, are_prefix, are_within_limits}
use Rattle.l6_card.specs.Statement.{label_on}
use Rattle.l6_card.specs.Pieces.{Piece, ends, begins, continues, unknown_card, label, item}
use Rattle.l6_card.specs.ReadAlone.{begins_none, begin_none, StatementsObjectAlone}
use Rattle.l6_card.specs.Fault.{Begun, Known, column_objects, and_then, objection_met, when_over, when_continued, when_item, after_piece, after_pieces}

-- what is known, with so many more statements over
abbrev pub moved : ℕ → Known → Known
moved count known = record { over = known.over + count; begun = known.begun }

abbrev pub all_moved : ℕ → Result Known Objection → Result Known Objection
all_moved count (Ok known) = Ok (moved count known)
all_moved count (Err fault) = Err fault

cond_moved : (holds : Bool) (count : ℕ) (known : Known) (fault : Objection) →
    cond holds (Ok (moved count known)) (Err fault) ≡ all_moved count (cond holds (Ok known) (Err fault))
cond_moved true count known fault = refl
cond_moved false count known fault = refl

over_moved : (count over : ℕ) (begun : Option Begun) →
    when_over (over + count) begun ≡ all_moved count (when_over over begun)
over_moved count over None = refl
over_moved count over (Some statement) =
    let same : over + count + 1 ≡ over + 1 + count = omega arith in
    ap (λ n. cond (are_whole statement.items) (Ok (record { over = n; begun = None }))
    (Err (card_objects statement.body Unfinished))) same
    ∙ cond_moved (are_whole statement.items) count (record { over = over + 1; begun = None })
    (card_objects statement.body Unfinished)

continued_moved : (count : ℕ) (body : Body) (over : ℕ) (begun : Option Begun) →
    when_continued body (over + count) begun ≡ all_moved count (when_continued body over begun)
continued_moved count body over None = refl
continued_moved count body over (Some statement) =
    cond_moved (ltb statement.continuations most_continuations) count
    (record {
      over = over;
      begun = Some (record statement {
        body = body;
        continuations = statement.continuations + 1;
      });
    })
    (column_objects body.card TooManyContinuations)

items_moved : (prefix few : Bool) (count : ℕ) (form limit : Objection) (known : Known) →
    cond (not prefix) (Err form) (cond (not few) (Err limit) (Ok (moved count known)))
    ≡ all_moved count (cond (not prefix) (Err form) (cond (not few) (Err limit) (Ok known)))
items_moved true true count form limit known = refl
items_moved true false count form limit known = refl
items_moved false few count form limit known = refl

item_moved : (count card : ℕ) (i : Item) (over : ℕ) (begun : Option Begun) →
    when_item card i (over + count) begun ≡ all_moved count (when_item card i over begun)
item_moved count card i over None = refl
item_moved count card i over (Some statement) =
    let items = statement.items ++ item_on card i ∷ [] in
    items_moved (are_prefix items) (are_within_limits items) count
    (item_objects statement.body i (reason_at (expected_after statement.items) i))
    (item_objects statement.body i TooManyGroups)
    (record { over = over; begun = Some (record statement { items = items }) })

piece_moved : (piece : Piece) (count : ℕ) (known : Known) → begins_none piece ≡ true →
    after_piece (moved count known) piece ≡ all_moved count (after_piece known piece)
piece_moved ends count known none = over_moved count known.over known.begun
piece_moved (begins body) count known none = absurd (cc)
piece_moved (continues body) count known none = continued_moved count body known.over known.begun
piece_moved (unknown_card card) count known none = refl
piece_moved (label card columns) count known none =
    cond_moved (is_some (label_on card columns)) count known
    (objects card 0 (length columns) (label_reason columns))
piece_moved (item card i) count known none = item_moved count card i known.over known.begun

then_moved : (pass : Result Known Objection) (count : ℕ) (step : Known → Result Known Objection) →
    ((known : Known) → step (moved count known) ≡ all_moved count (step known)) →
    and_then (all_moved count pass) step ≡ all_moved count (and_then pass step)
then_moved (Ok known) count step each = each known
then_moved (Err fault) count step each = refl

both_none : (one : Bool) (others : Bool) → cond one others false ≡ true →
    (one ≡ true) × (others ≡ true)
both_none true others none = (refl, none)
both_none false others none = absurd (cc)

pub pieces_moved : (pieces : List Piece) (count : ℕ) (known : Known) → begin_none pieces ≡ true →
    after_pieces (moved count known) pieces ≡ all_moved count (after_pieces known pieces)
pieces_moved [] count known none = refl
pieces_moved (piece ∷ pieces) count known none =
    let both = both_none (begins_none piece) (begin_none pieces) none in
    ap (λ r. and_then r (λ next. after_pieces next pieces)) (piece_moved piece count known both.0)
    ∙ then_moved (after_piece known piece) count (λ next. after_pieces next pieces)
    (λ next. pieces_moved pieces count next both.1)

moved_fault : (count : ℕ) (pass : Result Known Objection) →
    objection_met (all_moved count pass) ≡ objection_met pass
moved_fault count (Ok known) = refl
moved_fault count (Err fault) = refl

begun_fault : (room : Bool) (count : ℕ) (body : Body) (pieces : List Piece) → room ≡ true →
    begin_none pieces ≡ true →
    let first : ℕ → Known = λ over. record {
      over = over;
      begun = Some (record { items = []; body = body; continuations = 0 });
    } in
    objection_met (and_then (cond room (Ok (first count)) (Err (card_objects body TooManyStatements)))
    (λ next. after_pieces next pieces))
    ≡ objection_met (after_pieces (first 0) pieces)
begun_fault true count body pieces room none =
    let first : Known = record {
      over = 0;
      begun = Some (record { items = []; body = body; continuations = 0 });
    } in
    let same : 0 + count ≡ count = omega arith in
    ap (λ n. objection_met (after_pieces (record { over = n; begun = first.begun }) pieces)) (sym same)
    ∙ ap objection_met (pieces_moved pieces count first none)
    ∙ moved_fault count (after_pieces first pieces)
begun_fault false count body pieces room none = absurd (cc)

-- a statement has the fault that it has as the first of a deck, where there is room for it
pub statements_object_alone : StatementsObjectAlone
statements_object_alone over body pieces room none =
    begun_fault (ltb over most_deck_statements) over body pieces room none
