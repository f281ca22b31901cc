-- Where the bytes of a deck are: its lines, its cards and their items.
use Rattle.std.proofs.Common.{◌≡◌, ℕ, ◌+◌, ◌-◌, ◌≤◌, List, [], ◌∷◌, ◌++◌, length, take, drop, Bool, true, false, cond, eqb, refl, sym, ap, ◌∙◌, subst, arith, append_assoc, length-append, length-drop}
use Rattle.std.specs.Prelude.{◌||◌}
use Rattle.std.specs.List.{list_all, onto_first}
use Rattle.std.specs.Str.{byte}
use Rattle.std.proofs.lemmas.Bool.{and_from, eqb-true}
use Rattle.std.proofs.lemmas.List.{drop-drop, drop_at, take_at, take-append-drop, append-nil}
use Rattle.l6_word.specs.Lines.{lines_of, without_return}
use Rattle.l6_group.specs.Character.{is_blank, is_letter, is_letter_or_digit}
use Rattle.l6_card.specs.Numerals.{card_width}
use Rattle.l6_card.specs.Items.{Item, group, word, unclosed, unopened, after_opening, after_blank, after_letter, items_of}
use Rattle.l6_card.specs.Card.{Body, Card, skipped, plain, labelled, continued, unknown, columns_of, run_of, following_run, card_of, cards_from, cards_of}
use Rattle.l6_card.specs.Spans.{group_span, bytes_at}
use Rattle.l6_card.specs.Laws.{is_inner}

-- at this offset the deck has these bytes, and then the others
pub record HasBytes (deck : List ℕ) (offset : ℕ) (bytes : List ℕ) : Type 0 where
  pub others : List ℕ
  pub same : drop offset deck ≡ bytes ++ others

-- after its first bytes the deck has the others
pub following_bytes : (deck : List ℕ) (offset : ℕ) (bytes others : List ℕ) →
    drop offset deck ≡ bytes ++ others → drop (offset + length bytes) deck ≡ others
following_bytes deck offset bytes others same =
    sym (drop-drop (length bytes) offset deck)
    ∙ ap (drop (length bytes)) same
    ∙ drop_at bytes others (length bytes) refl

-- the first of some bytes, and the others after them
pub first_bytes : (deck : List ℕ) (offset : ℕ) (front following : List ℕ) →
    HasBytes deck offset (front ++ following) → HasBytes deck offset front
first_bytes deck offset front following has = record {
  others = following ++ has.others;
  same = has.same ∙ append_assoc front following has.others;
}

pub last_bytes : (deck : List ℕ) (offset : ℕ) (front following : List ℕ) →
    HasBytes deck offset (front ++ following) → HasBytes deck (offset + length front) following
last_bytes deck offset front following has = record {
  others = has.others;
  same = following_bytes deck offset front (following ++ has.others)
      (has.same ∙ append_assoc front following has.others);
}

-- one byte in front of some
pub more_bytes : (deck : List ℕ) (offset first : ℕ) (rest bytes : List ℕ) →
    drop offset deck ≡ first ∷ rest → HasBytes deck (offset + 1) bytes →
    HasBytes deck offset (first ∷ bytes)
more_bytes deck offset first rest bytes text has = record {
  others = has.others;
  same = text
      ∙ ap (λ r. first ∷ r) (sym (following_bytes deck offset (first ∷ []) rest text) ∙ has.same);
}

-- where a text begins that has a byte, it ends at the end of the deck
pub text_ends : (deck : List ℕ) (offset first : ℕ) (rest : List ℕ) →
    drop offset deck ≡ first ∷ rest → offset + length rest + 1 ≡ length deck
text_ends deck offset first rest text = omega (arith, length-drop offset deck, ap length text)

-- lines are in a deck from this offset on, with a line feed or the end after each
abbrev pub LinesStand : List ℕ → ℕ → List (List ℕ) → Type 0
LinesStand deck offset [] = Unit {0}
LinesStand deck offset (line ∷ lines) =
    HasBytes deck offset line × (offset + length line ≤ length deck)
    × LinesStand deck (offset + length line + 1) lines

-- a byte in front of the first line
lines_onto : (deck : List ℕ) (offset first : ℕ) (rest : List ℕ) (lines : List (List ℕ)) →
    drop offset deck ≡ first ∷ rest → LinesStand deck (offset + 1) lines →
    LinesStand deck offset (onto_first first lines)
lines_onto deck offset first rest [] text are_prefix = (
  record { others = rest; same = text },
  omega (arith, text_ends deck offset first rest text),
  tt,
)
lines_onto deck offset first rest (line ∷ lines) text are_prefix =
    let same : offset + 1 + length line + 1 ≡ offset + length (first ∷ line) + 1 = omega arith in (
      more_bytes deck offset first rest line text are_prefix.0,
      omega (arith, are_prefix.1),
      subst (λ (o : ℕ). LinesStand deck o lines) same are_prefix.2,
    )

lines_first : (deck : List ℕ) (offset first : ℕ) (rest : List ℕ) (feeds : Bool)
    (lines : List (List ℕ)) →
    drop offset deck ≡ first ∷ rest → LinesStand deck (offset + 1) lines →
    LinesStand deck offset (cond feeds ([] ∷ lines) (onto_first first lines))
lines_first deck offset first rest true lines text are_prefix =
    let same : offset + 1 ≡ offset + length {A = ℕ} [] + 1 = omega arith in (
      record { others = first ∷ rest; same = text },
      omega (arith, text_ends deck offset first rest text),
      subst (λ (o : ℕ). LinesStand deck o lines) same are_prefix,
    )
lines_first deck offset first rest false lines text are_prefix =
    lines_onto deck offset first rest lines text are_prefix

-- the lines of a text are where the text does
pub lines_hold : (text deck : List ℕ) (offset : ℕ) → drop offset deck ≡ text →
    LinesStand deck offset (lines_of text)
lines_hold [] deck offset text = tt
lines_hold (first ∷ rest) deck offset text =
    lines_first deck offset first rest (eqb first (byte "\n")) (lines_of rest) text
    (lines_hold rest deck (offset + 1) (following_bytes deck offset (first ∷ []) rest text))

-- a body is at its offset, which is this one or a later one
pub record BodyStands (deck : List ℕ) (from : ℕ) (body : Body) : Type 0 where
  pub after : from ≤ body.offset
  pub bytes : HasBytes deck body.offset body.columns

-- where a body ends
abbrev pub end_of : Body → ℕ
end_of body = body.offset + length body.columns

-- the bodies of cards are in the deck, the first at this offset or later, and each other one
-- where
-- the one before ends or later
abbrev pub CardsArePrefixes : List ℕ → ℕ → List Card → Type 0
CardsArePrefixes deck from [] = from ≤ length deck
CardsArePrefixes deck from (skipped ∷ cards) = CardsArePrefixes deck from cards
CardsArePrefixes deck from (plain body ∷ cards) =
    BodyStands deck from body × CardsArePrefixes deck (end_of body) cards
CardsArePrefixes deck from (labelled columns body ∷ cards) =
    BodyStands deck from body × CardsArePrefixes deck (end_of body) cards
CardsArePrefixes deck from (continued body ∷ cards) =
    BodyStands deck from body × CardsArePrefixes deck (end_of body) cards
CardsArePrefixes deck from (unknown number ∷ cards) = CardsArePrefixes deck from cards

-- what holds of each card that tests may lead to
by_kind : (P : Card → Type 0) (one two three four : Bool) (a b c d e : Card) →
    P a → P b → P c → P d → P e → P (cond one a (cond two b (cond three c (cond four d e))))
by_kind P true two three four a b c d e pa pb pc pd pe = pa
by_kind P false true three four a b c d e pa pb pc pd pe = pb
by_kind P false false true four a b c d e pa pb pc pd pe = pc
by_kind P false false false true a b c d e pa pb pc pd pe = pd
by_kind P false false false false a b c d e pa pb pc pd pe = pe

run_cond : (is_one : Bool) (column : ℕ) (columns run following : List ℕ) → columns ≡ run ++ following →
    column ∷ columns
    ≡ cond is_one (column ∷ run) [] ++ cond is_one following (column ∷ columns)
run_cond true column columns run following parts = ap (λ c. column ∷ c) parts
run_cond false column columns run following parts = refl

-- the run that columns begin with, and what follows it
run_parts : (columns : List ℕ) → columns ≡ run_of columns ++ following_run columns
run_parts [] = refl
run_parts (column ∷ columns) =
    run_cond (is_letter_or_digit column) column columns (run_of columns) (following_run columns)
    (run_parts columns)

-- a card is where its columns do, if the cards after it do
card_holds : (deck : List ℕ) (from number offset : ℕ) (columns : List ℕ) (cards : List Card) →
    from ≤ offset → HasBytes deck offset columns →
    ((later : ℕ) → later ≤ offset + length columns → CardsArePrefixes deck later cards) →
    CardsArePrefixes deck from (card_of number offset columns ∷ cards)
card_holds deck from number offset [] cards after has are_prefix = are_prefix from (omega arith)
card_holds deck from number offset (column ∷ columns) cards after has are_prefix =
    let run = run_of (column ∷ columns) in
    let following = following_run (column ∷ columns) in
    let parts : column ∷ columns ≡ run ++ following = run_parts (column ∷ columns) in
    let body : Body =
    record { card = number; offset = offset + 1; front = column ∷ []; columns = columns } in
    let other : Body =
    record { card = number; offset = offset + length run; front = run; columns = following } in
    let none = are_prefix from (omega arith) in
    let inside : BodyStands deck from body × CardsArePrefixes deck (end_of body) cards = (
      record { after = omega arith; bytes = last_bytes deck offset (column ∷ []) columns has },
      are_prefix (end_of body) (omega arith),
    ) in
    let split : HasBytes deck offset (run ++ following) =
    subst (λ (c : List ℕ). HasBytes deck offset c) parts has in
    let count = ap length parts ∙ length-append run following in
    let rest : BodyStands deck from other × CardsArePrefixes deck (end_of other) cards = (
      record { after = omega arith; bytes = last_bytes deck offset run following split },
      are_prefix (end_of other) (omega (arith, count)),
    ) in
    by_kind (λ card. CardsArePrefixes deck from (card ∷ cards))
    (eqb column (byte "*") || list_all is_blank (column ∷ columns)) (is_blank column)
    (eqb column (byte "+")) (is_letter column)
    skipped (plain body) (continued body) (labelled run other) (unknown number)
    none inside inside rest none

-- a card has columns that its line begins with
pub record Begins (line columns : List ℕ) : Type 0 where
  pub others : List ℕ
  pub whole : line ≡ columns ++ others

begins_take : (count : ℕ) (line : List ℕ) → Begins line (take count line)
begins_take count line =
    record { others = drop count line; whole = sym (take-append-drop count line) }

begins_return : (returns : Bool) (line : List ℕ) →
    Begins line (cond returns (take (length line - 1) line) line)
begins_return true line = begins_take (length line - 1) line
begins_return false line = record { others = []; whole = sym (append-nil line) }

begins_columns : (line : List ℕ) → Begins line (columns_of line)
begins_columns line =
    let shorter : Begins line (without_return line) = begins_return _ line in
    let first = begins_take card_width (without_return line) in
    record {
      others = first.others ++ shorter.others;
      whole = shorter.whole ∙ ap (λ l. l ++ shorter.others) first.whole
          ∙ append_assoc (columns_of line) first.others shorter.others;
    }

-- cards are where their lines do
pub cards_hold : (lines : List (List ℕ)) (deck : List ℕ) (from number offset : ℕ) →
    from ≤ offset → from ≤ length deck → LinesStand deck offset lines →
    CardsArePrefixes deck from (cards_from number offset lines)
cards_hold [] deck from number offset after within are_prefix = within
cards_hold (line ∷ lines) deck from number offset after within are_prefix =
    let columns = begins_columns line in
    let count = ap length columns.whole ∙ length-append (columns_of line) columns.others in
    let has : HasBytes deck offset (columns_of line ++ columns.others) =
    subst (λ (l : List ℕ). HasBytes deck offset l) columns.whole are_prefix.0 in
    card_holds deck from number offset (columns_of line)
    (cards_from (number + 1) (offset + length line + 1) lines) after
    (first_bytes deck offset (columns_of line) columns.others has)
    (λ later soon. cards_hold lines deck later (number + 1) (offset + length line + 1)
    (omega (arith, count)) (omega (arith, count, are_prefix.1)) are_prefix.2)

-- the deck's cards are in it
pub deck_holds : (deck : List ℕ) → CardsArePrefixes deck 0 (cards_of deck)
deck_holds deck =
    cards_hold (lines_of deck) deck 0 1 0 (omega arith) (omega arith)
    (lines_hold deck deck 0 refl)

-- at this offset the deck has a group of these columns
pub record GroupStands (deck : List ℕ) (offset : ℕ) (columns : List ℕ) : Type 0 where
  pub inner : list_all is_inner columns ≡ true
  pub bytes : bytes_at deck (group_span offset columns) ≡ byte "(" ∷ columns ++ byte ")" ∷ []

-- the groups among items are in the deck, the first at the first of these offsets or later, each
-- other one where the one before ends or later, and the last ends at the second offset or before
abbrev pub ItemsArePrefix : List ℕ → ℕ → List Item → ℕ → Type 0
ItemsArePrefix deck from [] end = from ≤ end
ItemsArePrefix deck from (group offset columns ∷ items) end =
    (from ≤ offset) × GroupStands deck offset columns
    × ItemsArePrefix deck (offset + length columns + 2) items end
ItemsArePrefix deck from (word at past columns ∷ items) end = ItemsArePrefix deck from items end
ItemsArePrefix deck from (unclosed at ∷ items) end = ItemsArePrefix deck from items end
ItemsArePrefix deck from (unopened at columns ∷ items) end = ItemsArePrefix deck from items end

-- they are there from any earlier offset on
pub sooner : (deck : List ℕ) (from later : ℕ) (items : List Item) (end : ℕ) →
    from ≤ later → ItemsArePrefix deck later items end → ItemsArePrefix deck from items end
sooner deck from later [] end soon are_prefix = omega (arith, are_prefix)
sooner deck from later (group offset columns ∷ items) end soon are_prefix =
    (omega (arith, are_prefix.0), are_prefix.1, are_prefix.2)
sooner deck from later (word at past columns ∷ items) end soon are_prefix =
    sooner deck from later items end soon are_prefix
sooner deck from later (unclosed at ∷ items) end soon are_prefix =
    sooner deck from later items end soon are_prefix
sooner deck from later (unopened at columns ∷ items) end soon are_prefix =
    sooner deck from later items end soon are_prefix

-- items in a row
pub items_fit_append : (deck : List ℕ) (from middle end : ℕ) (front following : List Item) →
    ItemsArePrefix deck from front middle → ItemsArePrefix deck middle following end →
    ItemsArePrefix deck from (front ++ following) end
items_fit_append deck from middle end [] following are_prefix are_prefix' =
    sooner deck from middle following end are_prefix are_prefix'
items_fit_append deck from middle end
    (group offset columns ∷ front) following are_prefix are_prefix' =
    let next = offset + length columns + 2 in (
      are_prefix.0,
      are_prefix.1,
      items_fit_append deck next middle end front following
          are_prefix.2 are_prefix',
    )
items_fit_append deck from middle end (word at past columns ∷ front) following are_prefix are_prefix' =
    items_fit_append deck from middle end front following are_prefix are_prefix'
items_fit_append deck from middle end (unclosed at ∷ front) following are_prefix are_prefix' =
    items_fit_append deck from middle end front following are_prefix are_prefix'
items_fit_append deck from middle end (unopened at columns ∷ front) following are_prefix are_prefix' =
    items_fit_append deck from middle end front following are_prefix are_prefix'

-- so do items whose first may be a `)` with what is before it, right at this offset
abbrev pub ItemsBegin : List ℕ → ℕ → List Item → ℕ → Type 0
ItemsBegin deck from (unopened at columns ∷ items) end =
    (list_all is_inner columns ≡ true) × HasBytes deck from (columns ++ byte ")" ∷ [])
    × ItemsArePrefix deck (from + length columns + 1) items end
ItemsBegin deck from [] end = ItemsArePrefix deck from [] end
ItemsBegin deck from (group offset columns ∷ items) end =
    ItemsArePrefix deck from (group offset columns ∷ items) end
ItemsBegin deck from (word at past columns ∷ items) end = ItemsArePrefix deck from (word at past columns ∷ items) end
ItemsBegin deck from (unclosed at ∷ items) end = ItemsArePrefix deck from (unclosed at ∷ items) end

begun_hold : (deck : List ℕ) (from : ℕ) (items : List Item) (end : ℕ) →
    ItemsBegin deck from items end → ItemsArePrefix deck from items end
begun_hold deck from [] end begin = begin
begun_hold deck from (group offset columns ∷ items) end begin = begin
begun_hold deck from (word at past columns ∷ items) end begin = begin
begun_hold deck from (unclosed at ∷ items) end begin = begin
begun_hold deck from (unopened at columns ∷ items) end begin =
    sooner deck from (from + length columns + 1) items end (omega arith) begin.2

-- the bytes of a group
group_holds : (deck : List ℕ) (offset : ℕ) (columns : List ℕ) →
    list_all is_inner columns ≡ true →
    HasBytes deck offset (byte "(" ∷ columns ++ byte ")" ∷ []) → GroupStands deck offset columns
group_holds deck offset columns inner has = record {
  inner = inner;
  bytes = ap (take (length columns + 2)) has.same
      ∙ take_at (byte "(" ∷ columns ++ byte ")" ∷ []) has.others (length columns + 2)
      (omega (arith, length-append columns (byte ")" ∷ [])));
}

-- what follows a column, as far as it is known
opening_begins : (deck : List ℕ) (offset : ℕ) (rest : List ℕ) (items : List Item) (end : ℕ) →
    drop offset deck ≡ byte "(" ∷ rest → ItemsBegin deck (offset + 1) items end →
    ItemsBegin deck offset (after_opening offset items) end
opening_begins deck offset rest [] end text begin = omega (arith, begin)
opening_begins deck offset rest (group at columns ∷ items) end text begin =
    sooner deck offset (offset + 1) (group at columns ∷ items) end (omega arith) begin
opening_begins deck offset rest (word at past columns ∷ items) end text begin =
    sooner deck offset (offset + 1) (word at past columns ∷ items) end (omega arith) begin
opening_begins deck offset rest (unclosed at ∷ items) end text begin =
    sooner deck offset (offset + 1) (unclosed at ∷ items) end (omega arith) begin
opening_begins deck offset rest (unopened at columns ∷ items) end text begin = (
  omega arith,
  group_holds deck offset columns begin.0
      (more_bytes deck offset (byte "(") rest (columns ++ byte ")" ∷ []) text begin.1),
  subst (λ (o : ℕ). ItemsArePrefix deck o items end) (omega arith) begin.2,
)

joined_begins : (deck : List ℕ) (offset column at : ℕ) (rest columns : List ℕ) (items : List Item)
    (end : ℕ) →
    drop offset deck ≡ column ∷ rest → is_inner column ≡ true →
    ItemsBegin deck (offset + 1) (unopened at columns ∷ items) end →
    ItemsBegin deck offset (unopened at (column ∷ columns) ∷ items) end
joined_begins deck offset column at rest columns items end text inner begin = (
  and_from (is_inner column) (list_all is_inner columns) inner begin.0,
  more_bytes deck offset column rest (columns ++ byte ")" ∷ []) text begin.1,
  subst (λ (o : ℕ). ItemsArePrefix deck o items end) (omega arith) begin.2,
)

blank_begins : (deck : List ℕ) (offset column : ℕ) (rest : List ℕ) (items : List Item) (end : ℕ) →
    drop offset deck ≡ column ∷ rest → is_inner column ≡ true →
    ItemsBegin deck (offset + 1) items end →
    ItemsBegin deck offset (after_blank column items) end
blank_begins deck offset column rest [] end text inner begin = omega (arith, begin)
blank_begins deck offset column rest (group at columns ∷ items) end text inner begin =
    sooner deck offset (offset + 1) (group at columns ∷ items) end (omega arith) begin
blank_begins deck offset column rest (word at past columns ∷ items) end text inner begin =
    sooner deck offset (offset + 1) (word at past columns ∷ items) end (omega arith) begin
blank_begins deck offset column rest (unclosed at ∷ items) end text inner begin =
    sooner deck offset (offset + 1) (unclosed at ∷ items) end (omega arith) begin
blank_begins deck offset column rest (unopened at columns ∷ items) end text inner begin =
    joined_begins deck offset column at rest columns items end text inner begin

letter_begins : (deck : List ℕ) (offset column : ℕ) (rest : List ℕ) (items : List Item) (end : ℕ) →
    drop offset deck ≡ column ∷ rest → is_inner column ≡ true →
    ItemsBegin deck (offset + 1) items end →
    ItemsBegin deck offset (after_letter offset column items) end
letter_begins deck offset column rest [] end text inner begin = omega (arith, begin)
letter_begins deck offset column rest (group at columns ∷ items) end text inner begin =
    sooner deck offset (offset + 1) (group at columns ∷ items) end (omega arith) begin
letter_begins deck offset column rest (word at past columns ∷ items) end text inner begin =
    sooner deck offset (offset + 1) items end (omega arith) begin
letter_begins deck offset column rest (unclosed at ∷ items) end text inner begin =
    sooner deck offset (offset + 1) items end (omega arith) begin
letter_begins deck offset column rest (unopened at columns ∷ items) end text inner begin =
    joined_begins deck offset column at rest columns items end text inner begin

column_begins : (deck : List ℕ) (offset column : ℕ) (rest : List ℕ) (items : List Item) (end : ℕ)
    (closes opens blank : Bool) →
    drop offset deck ≡ column ∷ rest → ItemsBegin deck (offset + 1) items end →
    eqb column (byte ")") ≡ closes → eqb column (byte "(") ≡ opens →
    ItemsBegin deck offset
    (cond closes (unopened offset [] ∷ items)
    (cond opens (after_opening offset items)
    (cond blank (after_blank column items) (after_letter offset column items))))
    end
column_begins deck offset column rest items end true opens blank text begin closes opens' = (
  refl,
  record {
    others = rest;
    same = text ∙ ap (λ c. c ∷ rest) (eqb-true column (byte ")") closes);
  },
  subst (λ (o : ℕ). ItemsArePrefix deck o items end) (omega arith)
      (begun_hold deck (offset + 1) items end begin),
)
column_begins deck offset column rest items end false true blank text begin closes opens =
    opening_begins deck offset rest items end
    (text ∙ ap (λ c. c ∷ rest) (eqb-true column (byte "(") opens)) begin
column_begins deck offset column rest items end false false true text begin closes opens =
    blank_begins deck offset column rest items end text (rw (closes, opens) refl) begin
column_begins deck offset column rest items end false false false text begin closes opens =
    letter_begins deck offset column rest items end text (rw (closes, opens) refl) begin

items_begin : (columns deck : List ℕ) (offset end : ℕ) → HasBytes deck offset columns →
    offset + length columns ≤ end → ItemsBegin deck offset (items_of offset columns) end
items_begin [] deck offset end has within = omega (arith, within)
items_begin (column ∷ columns) deck offset end has within =
    column_begins deck offset column (columns ++ has.others) (items_of (offset + 1) columns) end
    (eqb column (byte ")")) (eqb column (byte "(")) (is_blank column) has.same
    (items_begin columns deck (offset + 1) end (last_bytes deck offset (column ∷ []) columns has)
    (omega (arith, within)))
    refl refl

-- the items of a body are in it
pub body_items : (deck : List ℕ) (from : ℕ) (body : Body) → BodyStands deck from body →
    ItemsArePrefix deck from (items_of body.offset body.columns) (end_of body)
body_items deck from body is_prefix =
    sooner deck from body.offset (items_of body.offset body.columns) (end_of body) is_prefix.after
    (begun_hold deck body.offset (items_of body.offset body.columns) (end_of body)
    (items_begin body.columns deck body.offset (end_of body) is_prefix.bytes (omega arith)))
