-- A deck's pieces are those of a part and those of the rest, where the rest begins a statement.
use Rattle.std.proofs.Common.{◌≡◌, ℕ, ◌+◌, Bool, true, false, cond, List, [], ◌∷◌, ◌++◌, Option, Some, None, Result, Ok, Err, refl, sym, ap, ◌∙◌}
use Rattle.l6_card.specs.declared.objection.Objection.{Objection}
use Rattle.l6_card.specs.declared.objection.Reason.TheVariants.{Unfinished}
use Rattle.l6_card.specs.Objection.{card_objects}
use Rattle.l6_card.specs.Card.{Card, skipped, plain, labelled, continued, unknown}
use Rattle.l6_card.specs.Form.{are_whole}
use Rattle.l6_card.specs.Pieces.{Piece, ends, begins, label, unknown_card, items_on, pieces_of_card, pieces_of_cards}
use Rattle.l6_card.specs.ReadAlone.{begin_statement, PartsCompose}
use Rattle.l6_card.specs.Fault.{Begun, Known, and_then, when_over, after_piece, after_pieces}

-- a step is taken after the same
then_same : (pass : Result Known Objection) (one other : Known → Result Known Objection) →
    ((known : Known) → one known ≡ other known) → and_then pass one ≡ and_then pass other
then_same (Ok known) one other each = each known
then_same (Err fault) one other each = refl

then_then : (pass : Result Known Objection) (one other : Known → Result Known Objection) →
    and_then (and_then pass one) other ≡ and_then pass (λ known. and_then (one known) other)
then_then (Ok known) one other = refl
then_then (Err fault) one other = refl

-- pieces in a row are taken in a row
known_append : (front following : List Piece) (known : Known) →
    after_pieces known (front ++ following)
    ≡ and_then (after_pieces known front) (λ next. after_pieces next following)
known_append [] following known = refl
known_append (piece ∷ front) following known =
    then_same (after_piece known piece) (λ next. after_pieces next (front ++ following))
    (λ next. and_then (after_pieces next front) (λ n. after_pieces n following))
    (λ next. known_append front following next)
    ∙ sym (then_then (after_piece known piece) (λ next. after_pieces next front)
    (λ n. after_pieces n following))

whole_again : (whole : Bool) (over : ℕ) (objection : Objection) (step : Known → Result Known Objection) →
    let ended : Result Known Objection = cond whole (Ok (record { over = over + 1; begun = None }))
    (Err objection) in
    and_then ended (λ k. and_then (when_over k.over k.begun) step) ≡ and_then ended step
whole_again true over objection step = refl
whole_again false over objection step = refl

-- a statement that is over is over again
over_again : (over : ℕ) (begun : Option Begun) (step : Known → Result Known Objection) →
    and_then (when_over over begun) (λ k. and_then (when_over k.over k.begun) step)
    ≡ and_then (when_over over begun) step
over_again over None step = refl
over_again over (Some statement) step =
    whole_again (are_whole statement.items) over (card_objects statement.body Unfinished) step

-- the end in front of pieces that begin with one
ended_first : (more : List Piece) (known : Known) →
    after_pieces known (ends ∷ more)
    ≡ and_then (after_pieces known (ends ∷ [])) (λ next. after_pieces next (ends ∷ more))
ended_first more known =
    sym (over_again known.over known.begun (λ next. after_pieces next more))
    ∙ sym (then_then (when_over known.over known.begun) (λ next. Ok next)
    (λ next. after_pieces next (ends ∷ more)))

after_end : (rest : List Card) (known : Known) → begin_statement rest ≡ true →
    after_pieces known (pieces_of_cards rest)
    ≡ and_then (after_pieces known (ends ∷ [])) (λ next. after_pieces next (pieces_of_cards rest))
after_end [] known begin = ended_first [] known
after_end (skipped ∷ cards) known begin = absurd (cc)
after_end (plain body ∷ cards) known begin =
    ended_first (begins body ∷ items_on body ++ pieces_of_cards cards) known
after_end (labelled columns body ∷ cards) known begin =
    ended_first (begins body ∷ label body.card columns ∷ items_on body ++ pieces_of_cards cards)
    known
after_end (continued body ∷ cards) known begin = absurd (cc)
after_end (unknown number ∷ cards) known begin =
    ended_first (unknown_card number ∷ pieces_of_cards cards) known

-- the pass of a part as a deck of its own, and then that of the rest, is the pass of both
pub parts_compose : PartsCompose
parts_compose [] rest known begin = after_end rest known begin
parts_compose (card ∷ part) rest known begin =
    let both = pieces_of_cards (part ++ rest) in
    known_append (pieces_of_card card) both known
    ∙ then_same (after_pieces known (pieces_of_card card)) (λ next. after_pieces next both)
    (λ next. and_then (after_pieces next (pieces_of_cards part))
    (λ n. after_pieces n (pieces_of_cards rest)))
    (λ next. parts_compose part rest next begin)
    ∙ sym (then_then (after_pieces known (pieces_of_card card))
    (λ next. after_pieces next (pieces_of_cards part))
    (λ n. after_pieces n (pieces_of_cards rest)))
    ∙ sym (ap (λ r. and_then r (λ n. after_pieces n (pieces_of_cards rest)))
    (known_append (pieces_of_card card) (pieces_of_cards part) known))
