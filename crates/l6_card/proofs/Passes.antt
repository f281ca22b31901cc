-- The pass of a deck, card after card.
use Rattle.std.proofs.Common.{◌≡◌, ℕ, ◌+◌, ◌-◌, ◌≤◌, List, [], ◌∷◌, ◌++◌, map, length, Bool, true, false, cond, eqb, arith, Option, Some, None, IfSome, Result, Ok, Err, refl, sym, ap, subst, ◌∙◌}
use Rattle.std.specs.List.{onto_first}
use Rattle.std.specs.Option.{option_map}
use Rattle.std.specs.Str.{byte}
use Rattle.l6_word.specs.Lines.{lines_of}
use Rattle.l6_card.specs.Card.{card_of, cards_from, columns_of}
use Rattle.l6_card.specs.Items.{Item, group, word, items_of}
use Rattle.l6_card.specs.inner.Token.{GroupFirst, WordFirst, letters_of}
use Rattle.l6_card.specs.Pieces.{Piece, ends, item, pieces_of_card, pieces_of_cards}
use Rattle.l6_card.specs.declared.objection.Objection.{Objection}
use Rattle.l6_card.specs.declared.objection.ReadError.{ReadError}
use Rattle.l6_card.specs.Objection.{fault_in, count_solid}
use Rattle.l6_card.specs.inner.Reader.{Follows}
use Rattle.l6_card.specs.inner.Pass.{Stage, after_piece, after_pieces, pass_of}
use Rattle.l6_card.specs.Laws.{IsFirstFault}
use Rattle.l6_card.specs.Fault.{and_then}
use Rattle.l6_card.proofs.Settling.{first_fault_met}

and_then_append : (pass : Result Stage Objection) (front following : List Piece) →
    ((known : Stage) →
    after_pieces known (front ++ following) ≡ and_then (after_pieces known front)
    (λ next. after_pieces next following)) →
    and_then pass (λ known. after_pieces known (front ++ following))
    ≡ and_then (and_then pass (λ known. after_pieces known front))
    (λ next. after_pieces next following)
and_then_append (Ok known) front following each = each known
and_then_append (Err fault) front following each = refl

-- pieces in a row are taken in a row
pub after_pieces_append : (front following : List Piece) (known : Stage) →
    after_pieces known (front ++ following) ≡ and_then (after_pieces known front)
    (λ next. after_pieces next following)
after_pieces_append [] following known = refl
after_pieces_append (piece ∷ front) following known =
    and_then_append (after_piece known piece) front following (after_pieces_append front following)

-- pieces that were taken leave the others to take
pub pieces_go : {X : Type 0} (result : Result X ReadError) (front following : List Piece)
    (known next final : Stage) →
    after_pieces known front ≡ Ok next → Follows result final (after_pieces next following) →
    Follows result final (after_pieces known (front ++ following))
pieces_go result front following known next final taken follows =
    subst (Follows result final)
    (sym (after_pieces_append front following known
    ∙ ap (λ r. and_then r (λ k. after_pieces k following)) taken)) follows

-- pieces that met an objection are where the pass stops
pub pieces_stop : (found : Option Objection) (front following : List Piece) (known : Stage) →
    IfSome found (λ objection. after_pieces known front ≡ Err objection) →
    IfSome found (λ objection. after_pieces known (front ++ following) ≡ Err objection)
pieces_stop None front following known stops = tt
pieces_stop (Some objection) front following known stops =
    after_pieces_append front following known
    ∙ ap (λ r. and_then r (λ k. after_pieces k following)) stops

-- the first card of a text, by its columns, and the text after it
pub record FirstCard (text columns following : List ℕ) : Type 0 where
  pub line : List ℕ
  pub lines : lines_of text ≡ line ∷ lines_of following
  pub same : columns ≡ columns_of line

-- a first item that was taken leaves the others to take
pub item_goes : {all others : List Item} {i : Item} (number : ℕ) (known next : Stage)
    (pass : Result Stage Objection) →
    all ≡ i ∷ others → after_pieces known (map (item number) all) ≡ pass →
    after_piece known (item number i) ≡ Ok next →
    after_pieces next (map (item number) others) ≡ pass
item_goes {all} {others} {i} number known next pass split before taken =
    sym (ap (λ r. and_then r (λ k. after_pieces k (map (item number) others))) taken)
    ∙ sym (ap (λ is. after_pieces known (map (item number) is)) split)
    ∙ before

-- a first item that met an objection is where the pass stops
pub item_stops : {all others : List Item} {i : Item} (number : ℕ) (known : Stage)
    (pass : Result Stage Objection) (found : Option Objection) →
    all ≡ i ∷ others → after_pieces known (map (item number) all) ≡ pass →
    IfSome found (λ fault. after_piece known (item number i) ≡ Err fault) →
    IfSome found (λ fault. pass ≡ Err fault)
item_stops number known pass None split before stops = tt
item_stops {all} {others} {i} number known pass (Some fault) split before stops =
    sym before
    ∙ ap (λ is. after_pieces known (map (item number) is)) split
    ∙ ap (λ r. and_then r (λ k. after_pieces k (map (item number) others))) stops

-- the group that columns begin with which end at this offset, and the items after it
pub group_split : (end : ℕ) (rest columns following : List ℕ) → length rest ≤ end →
    GroupFirst (end - length rest) rest columns following →
    items_of (end - length rest) rest
    ≡ group (end - length following - length columns - 2) columns
    ∷ items_of (end - length following) following
group_split end rest columns following left one =
    let opens : one.opening ≡ end - length following - length columns - 2 = omega (arith, one.ends) in
    let next : one.opening + length columns + 2 ≡ end - length following = omega (arith, one.ends) in
    one.items
    ∙ ap (λ o. group o columns ∷ items_of (one.opening + length columns + 2) following) opens
    ∙ ap (λ o. group (end - length following - length columns - 2) columns ∷ items_of o following) next

-- the word that columns begin with which end at this offset, and the items after it
pub word_split : (end : ℕ) (rest columns following : List ℕ) → length rest ≤ end →
    WordFirst (end - length rest) rest columns following →
    let opening = end - length following - length columns in
    items_of (end - length rest) rest
    ≡ word opening (opening + count_solid columns) (letters_of columns)
    ∷ items_of (end - length following) following
word_split end rest columns following left one =
    let opens : one.opening ≡ end - length following - length columns = omega (arith, one.ends) in
    let next : one.opening + length columns ≡ end - length following = omega (arith, one.ends) in
    one.items
    ∙ ap (λ o. word o (o + count_solid columns) (letters_of columns)
    ∷ items_of (one.opening + length columns) following) opens
    ∙ ap (λ o. word (end - length following - length columns)
    (end - length following - length columns + count_solid columns) (letters_of columns)
    ∷ items_of o following) next

-- the pieces of a text, whose first card has this number and this offset
abbrev pub text_pieces : ℕ → ℕ → List ℕ → List Piece
text_pieces number offset text = pieces_of_cards (cards_from number offset (lines_of text))

-- the first card of a text is taken, and then the others
pub first_card : (text columns following : List ℕ) (number offset : ℕ) (known : Stage) →
    (first : FirstCard text columns following) →
    after_pieces known (text_pieces number offset text)
    ≡ and_then (after_pieces known (pieces_of_card (card_of number offset columns)))
    (λ next. after_pieces next
    (text_pieces (number + 1) (offset + length first.line + 1) following))
first_card text columns following number offset known first =
    let others = text_pieces (number + 1) (offset + length first.line + 1) following in
    ap (λ ls. after_pieces known (pieces_of_cards (cards_from number offset ls))) first.lines
    ∙ after_pieces_append (pieces_of_card (card_of number offset (columns_of first.line)))
    others known
    ∙ ap (λ c. and_then (after_pieces known (pieces_of_card (card_of number offset c)))
    (λ next. after_pieces next others))
    (sym first.same)

-- a card that was taken leaves the others to take
pub pass_goes : (text columns following : List ℕ) (number offset : ℕ) (known next : Stage)
    (pass : Result Stage Objection) →
    (first : FirstCard text columns following) →
    after_pieces known (text_pieces number offset text) ≡ pass →
    after_pieces known (pieces_of_card (card_of number offset columns)) ≡ Ok next →
    after_pieces next (text_pieces (number + 1) (offset + length first.line + 1) following) ≡ pass
pass_goes text columns following number offset known next pass first before taken =
    let others = text_pieces (number + 1) (offset + length first.line + 1) following in
    sym (ap (λ r. and_then r (λ k. after_pieces k others)) taken)
    ∙ sym (first_card text columns following number offset known first)
    ∙ before

-- a card that met an objection is where the pass stops
pub pass_stops : (text columns following : List ℕ) (number offset : ℕ) (known : Stage)
    (fault : Objection) (pass : Result Stage Objection) →
    FirstCard text columns following →
    after_pieces known (text_pieces number offset text) ≡ pass →
    after_pieces known (pieces_of_card (card_of number offset columns)) ≡ Err fault →
    pass ≡ Err fault
pass_stops text columns following number offset known fault pass first before stopped =
    let others = text_pieces (number + 1) (offset + length first.line + 1) following in
    sym before
    ∙ first_card text columns following number offset known first
    ∙ ap (λ r. and_then r (λ k. after_pieces k others)) stopped

-- where no card is left the last statement is over
pub pass_over : (text : List ℕ) (number offset : ℕ) (known final : Stage)
    (pass : Result Stage Objection) →
    lines_of text ≡ [] →
    after_pieces known (text_pieces number offset text) ≡ pass →
    after_piece known ends ≡ Ok final →
    pass ≡ Ok final
pass_over text number offset known final pass none before taken =
    sym before
    ∙ ap (λ ls. after_pieces known (pieces_of_cards (cards_from number offset ls))) none
    ∙ ap (λ r. and_then r (λ k. Ok k)) taken

-- a fault that a card met, if it is one of the deck, is the first of the deck
pub refused : (deck text columns following : List ℕ) (number offset : ℕ) (known : Stage)
    (found : Option Objection) →
    FirstCard text columns following →
    after_pieces known (text_pieces number offset text) ≡ pass_of deck →
    IfSome found
    (λ fault. after_pieces known (pieces_of_card (card_of number offset columns)) ≡ Err fault) →
    IfSome (option_map fault_in found) (IsFirstFault deck)
refused deck text columns following number offset known None first before stops = tt
refused deck text columns following number offset known (Some fault) first before stops =
    first_fault_met deck fault
    (pass_stops text columns following number offset known fault (pass_of deck) first before stops)

-- the objection of the last statement's end, if there is one, is the first of the deck
pub refused_at_end : (deck text : List ℕ) (number offset : ℕ) (known : Stage)
    (found : Option Objection) →
    lines_of text ≡ [] →
    after_pieces known (text_pieces number offset text) ≡ pass_of deck →
    IfSome found (λ fault. after_piece known ends ≡ Err fault) →
    IfSome (option_map fault_in found) (IsFirstFault deck)
refused_at_end deck text number offset known None none before stops = tt
refused_at_end deck text number offset known (Some fault) none before stops =
    first_fault_met deck fault
    (sym before
    ∙ ap (λ ls. after_pieces known (pieces_of_cards (cards_from number offset ls))) none
    ∙ ap (λ r. and_then r (λ k. Ok k)) stops)

-- how many bytes lines have, if a line feed ends each
abbrev pub bytes_in : List (List ℕ) → ℕ
bytes_in [] = 0
bytes_in (line ∷ lines) = length line + 1 + bytes_in lines

bytes_in_onto : (first : ℕ) (lines : List (List ℕ)) (text : List ℕ) →
    bytes_in lines ≤ length text + 1 → bytes_in (onto_first first lines) ≤ length text + 2
bytes_in_onto first [] text few = omega arith
bytes_in_onto first (line ∷ lines) text few = omega arith

bytes_in_first : (feeds : Bool) (first : ℕ) (lines : List (List ℕ)) (text : List ℕ) →
    bytes_in lines ≤ length text + 1 →
    bytes_in (cond feeds ([] ∷ lines) (onto_first first lines)) ≤ length text + 2
bytes_in_first true first lines text few = omega arith
bytes_in_first false first lines text few = bytes_in_onto first lines text few

-- the lines of a text have its bytes, and one more where no line feed ends the last
pub bytes_in_lines : (text : List ℕ) → bytes_in (lines_of text) ≤ length text + 1
bytes_in_lines [] = omega arith
bytes_in_lines (first ∷ rest) =
    let more = bytes_in_first (eqb first (byte "\n")) first (lines_of rest) rest
    (bytes_in_lines rest) in
    omega arith
