-- The pass of a part of a deck, line after line.
use Rattle.std.proofs.Common.{◌≡◌, ℕ, ◌+◌, ◌-◌, ◌<◌, zero, suc, List, [], ◌∷◌, length, take, Option, Some, None, IfSome, Result, Ok, Err, arith, refl, sym, ap, ◌∙◌, subst}
use Rattle.l6_card.specs.Card.{card_of, cards_from, columns_of}
use Rattle.l6_card.specs.Pieces.{Piece, ends, pieces_of_card, pieces_of_cards}
use Rattle.l6_card.specs.Statement.{DeckStatementParts}
use Rattle.l6_card.specs.ReadsAs.{CardsDenote}
use Rattle.l6_card.specs.declared.objection.Objection.{Objection}
use Rattle.l6_card.specs.declared.objection.ReadError.{ReadError}
use Rattle.l6_card.specs.Objection.{objection_in}
use Rattle.l6_card.specs.inner.Reader.{Follows}
use Rattle.l6_card.specs.Fault.{and_then, objection_met}
use Rattle.l6_card.specs.ReadAlone.{objection_to_lines, LinesReadAs}
use Rattle.l6_card.specs.inner.Pass.{Stage, first_stage, after_piece, after_pieces}
use Rattle.l6_card.proofs.Passes.{after_pieces_append}
use Rattle.l6_card.proofs.Following.{objection_of_cards_pass}
use Rattle.l6_card.proofs.Statements.{cards_denoted}

-- the pieces of lines, of which the first has this number and this offset
abbrev pub line_pieces : ℕ → ℕ → List (List ℕ) → List Piece
line_pieces number offset lines = pieces_of_cards (cards_from number offset lines)

-- the pass of a part
abbrev pub part_pass : ℕ → List (List ℕ) → Result Stage Objection
part_pass number lines = after_pieces first_stage (line_pieces number 0 lines)

-- the first of some lines, where there is room for one
pub take_first : (count : ℕ) (line : List ℕ) (lines : List (List ℕ)) → 0 < count →
    take count (line ∷ lines) ≡ line ∷ take (count - 1) lines
take_first zero line lines some = absurd (omega (arith, some))
take_first (suc count) line lines some = ap (λ n. line ∷ take n lines) (omega arith)

pub take_none : (count : ℕ) → take {A = List ℕ} count [] ≡ []
take_none zero = refl
take_none (suc count) = refl

-- a line that was taken leaves the others to take
pub line_goes : {all : List (List ℕ)} (line : List ℕ) (lines : List (List ℕ)) (number offset : ℕ)
    (known next : Stage) (pass : Result Stage Objection) →
    all ≡ line ∷ lines →
    after_pieces known (line_pieces number offset all) ≡ pass →
    after_pieces known (pieces_of_card (card_of number offset (columns_of line))) ≡ Ok next →
    after_pieces next (line_pieces (number + 1) (offset + length line + 1) lines) ≡ pass
line_goes line lines number offset known next pass split before taken =
    let others = line_pieces (number + 1) (offset + length line + 1) lines in
    sym (ap (λ r. and_then r (λ k. after_pieces k others)) taken)
    ∙ sym (after_pieces_append (pieces_of_card (card_of number offset (columns_of line))) others known)
    ∙ sym (ap (λ ls. after_pieces known (line_pieces number offset ls)) split)
    ∙ before

-- a line that met an objection is where the pass stops
pub line_stops : {all : List (List ℕ)} (line : List ℕ) (lines : List (List ℕ)) (number offset : ℕ)
    (known : Stage) (pass : Result Stage Objection) (found : Option Objection) →
    all ≡ line ∷ lines →
    after_pieces known (line_pieces number offset all) ≡ pass →
    IfSome found (λ fault.
    after_pieces known (pieces_of_card (card_of number offset (columns_of line))) ≡ Err fault) →
    IfSome found (λ fault. pass ≡ Err fault)
line_stops line lines number offset known pass None split before stops = tt
line_stops line lines number offset known pass (Some fault) split before stops =
    let others = line_pieces (number + 1) (offset + length line + 1) lines in
    sym before
    ∙ ap (λ ls. after_pieces known (line_pieces number offset ls)) split
    ∙ after_pieces_append (pieces_of_card (card_of number offset (columns_of line))) others known
    ∙ ap (λ r. and_then r (λ k. after_pieces k others)) stops

ended_pass : {left : List (List ℕ)} (at offset : ℕ) (known : Stage) (pass ended : Result Stage Objection) →
    left ≡ [] → after_pieces known (line_pieces at offset left) ≡ pass →
    after_piece known ends ≡ ended → pass ≡ and_then ended (λ k. Ok k)
ended_pass at offset known pass ended none before taken =
    sym before
    ∙ ap (λ ls. after_pieces known (line_pieces at offset ls)) none
    ∙ ap (λ r. and_then r (λ k. Ok k)) taken

ended_objects : {left : List (List ℕ)} (at offset : ℕ) (known : Stage) (pass : Result Stage Objection)
    (found : Option Objection) →
    left ≡ [] → after_pieces known (line_pieces at offset left) ≡ pass →
    IfSome found (λ fault. after_piece known ends ≡ Err fault) →
    IfSome found (λ fault. pass ≡ Err fault)
ended_objects at offset known pass None none before stops = tt
ended_objects at offset known pass (Some fault) none before stops =
    ended_pass at offset known pass (Err fault) none before stops

-- where no line is left, the end of the last statement ends the pass
pub lines_over : {X : Type 0} {left : List (List ℕ)} (result : Result X ReadError) (at offset : ℕ)
    (known final : Stage) (pass : Result Stage Objection) →
    left ≡ [] → after_pieces known (line_pieces at offset left) ≡ pass →
    Follows result final (after_piece known ends) → Follows result final pass
lines_over (Ok x) at offset known final pass none before follows =
    ended_pass at offset known pass (Ok final) none before follows
lines_over (Err fault) at offset known final pass none before follows =
    ended_objects at offset known pass (objection_in fault) none before follows

-- the objection to a part is where its pass stops
pub part_objection : (number : ℕ) (lines : List (List ℕ)) →
    objection_to_lines number lines ≡ objection_met (part_pass number lines)
part_objection number lines = objection_of_cards_pass (cards_from number 0 lines)

-- the objection that a pass met is the one to its lines
pub objection_is_met : (number : ℕ) (lines : List (List ℕ)) (found : Option Objection) →
    IfSome found (λ fault. part_pass number lines ≡ Err fault) →
    IfSome found (λ fault. objection_to_lines number lines ≡ Some fault)
objection_is_met number lines None stops = tt
objection_is_met number lines (Some fault) stops = part_objection number lines ∙ ap objection_met stops

-- lines that were all taken say the statements that are complete then
pub lines_read : (number : ℕ) (lines : List (List ℕ)) (final : Stage) →
    part_pass number lines ≡ Ok final → LinesReadAs number lines final.statements
lines_read number lines final taken =
    let denoted = cards_denoted (cards_from number 0 lines) final taken in
    record {
      begins = denoted.begins;
      cards = subst (λ (s : List DeckStatementParts). CardsDenote (cards_from number 0 lines) s)
          (sym denoted.all) denoted.denote;
      fits = omega (arith, denoted.fits, ap length denoted.all);
    }

-- there is no objection to them
pub lines_without_objection : (number : ℕ) (lines : List (List ℕ)) (final : Stage) →
    part_pass number lines ≡ Ok final → objection_to_lines number lines ≡ None
lines_without_objection number lines final taken = part_objection number lines ∙ ap objection_met taken
