-- How the statements of lines are gone through.
use Rattle.std.proofs.Common.{◌≡◌, ℕ, ◌+◌, Bool, true, false, cond, List, [], ◌∷◌, ◌++◌, append_assoc, refl, sym, ap, ◌∙◌}
use Rattle.std.specs.Prelude.{◌&&◌, not, is_some}
use Rattle.std.specs.List.{flat_map}
use Rattle.l6_word.specs.Lines.{lines_of}
use Rattle.l6_prog.specs.Statement.{Parts}
use Rattle.l6_prog.specs.Target.{targets_of}
use Rattle.l6_card.specs.Card.{Card, skipped, plain, labelled, continued, unknown, card_of, columns_of}
use Rattle.l6_card.specs.Role.{role_in, role_of}
use Rattle.l6_check.specs.declared.findings.Findings.{Findings}
use Rattle.l6_check.specs.declared.ways.StatementTest.{StatementTest}
use Rattle.l6_check.specs.declared.ways.Ways.{Ways}
use Rattle.l6_check.specs.Kept.{Say}
use Rattle.l6_check.specs.Labels.{label_in, label_on_line}
use Rattle.l6_check.specs.Warnings.{card_if, cards_where, gives_condition, is_condition}
use Rattle.l6_check.specs.Ways.{is_first, is_named, is_unnamed, number_after, statement_on, statements_where}
use Rattle.l6_check.specs.inner.Marks.{is_marked, AreMarks}
use Rattle.l6_check.specs.inner.StatementTests.{passed_card, passes_at}

-- what the findings say of a test, with the statements of the text that is left, are all of them
pub record SaysSoFar (test : StatementTest) (ways : Ways) (findings : Findings) (number card : ℕ)
    (rest deck : List ℕ) : Type 0 where
  pub so_far : List ℕ
  pub says : Say (passed_card test) so_far findings
  pub whole : so_far ++ statements_where (passes_at test ways) number (card + 1) (lines_of rest)
      ≡ statements_where (passes_at test ways) 0 1 (lines_of deck)

chosen : {X : Type 0} (holds : Bool) (one other : X) → holds ≡ true → cond holds one other ≡ one
chosen true one other holds = refl
chosen false one other holds = absurd (cc)

left_out : {X : Type 0} (holds : Bool) (one other : X) → holds ≡ false → cond holds one other ≡ other
left_out true one other fails = absurd (cc)
left_out false one other fails = refl

-- they still are after a line that begins a statement
pub statement_taken : (test : StatementTest) (ways : Ways) (before after : Findings) (number card : ℕ)
    (line rest others deck : List ℕ) →
    lines_of rest ≡ line ∷ lines_of others → is_first (role_of line) ≡ true →
    ((cards : List ℕ) → Say (passed_card test) cards before →
    Say (passed_card test) (cards ++ card_if (passes_at test ways number line) (card + 1)) after) →
    SaysSoFar test ways before number card rest deck →
    SaysSoFar test ways after (number + 1) (card + 1) others deck
statement_taken test ways before after number card line rest others deck split first more far =
    let passes = passes_at test ways in
    let one = card_if (passes number line) (card + 1) in
    let next = chosen (is_first (role_of line)) (number + 1) number first in
    let said = chosen (is_first (role_of line)) one [] first in
    record {
      so_far = far.so_far ++ one;
      says = more far.so_far far.says;
      whole = append_assoc far.so_far one
          (statements_where passes (number + 1) (card + 1 + 1) (lines_of others))
          ∙ sym (ap (λ l. far.so_far ++ statements_where passes number (card + 1) l) split
          ∙ ap (λ o. far.so_far
          ++ (o ++ statements_where passes (number_after number line) (card + 1 + 1) (lines_of others))) said
          ∙ ap (λ n. far.so_far
          ++ (one ++ statements_where passes n (card + 1 + 1) (lines_of others))) next)
          ∙ far.whole;
    }

-- and after one that begins none
pub other_taken : (test : StatementTest) (ways : Ways) (findings : Findings) (number card : ℕ)
    (line rest others deck : List ℕ) →
    lines_of rest ≡ line ∷ lines_of others → is_first (role_of line) ≡ false →
    SaysSoFar test ways findings number card rest deck →
    SaysSoFar test ways findings number (card + 1) others deck
other_taken test ways findings number card line rest others deck split other far =
    let passes = passes_at test ways in
    let one = card_if (passes number line) (card + 1) in
    let next = left_out (is_first (role_of line)) (number + 1) number other in
    let said = left_out (is_first (role_of line)) one [] other in
    record {
      so_far = far.so_far;
      says = far.says;
      whole = sym (ap (λ l. far.so_far ++ statements_where passes number (card + 1) l) split
          ∙ ap (λ o. far.so_far
          ++ (o ++ statements_where passes (number_after number line) (card + 1 + 1) (lines_of others))) said
          ∙ ap (λ n. far.so_far ++ statements_where passes n (card + 1 + 1) (lines_of others)) next)
          ∙ far.whole;
    }

-- tests that answer alike find the same statements
pub where_same : (test other : ℕ → List ℕ → Bool) →
    ((number : ℕ) (line : List ℕ) → test number line ≡ other number line) →
    (number card : ℕ) (lines : List (List ℕ)) →
    statements_where test number card lines ≡ statements_where other number card lines
where_same test other same number card [] = refl
where_same test other same number card (line ∷ lines) =
    let rest = statements_where test (number_after number line) (card + 1) lines in
    ap (λ b. cond (is_first (role_of line)) (card_if b card) [] ++ rest) (same number line)
    ∙ ap (λ r. statement_on other number card line ++ r)
    (where_same test other same (number_after number line) (card + 1) lines)

-- what is said by marks is what is said by the program
pub unnamed_same : (program : List Parts) (marks : List Bool) (reached : ℕ → Bool) →
    AreMarks (flat_map targets_of program) marks → (lines : List (List ℕ)) →
    statements_where (is_unnamed (is_marked marks) reached) 0 1 lines
    ≡ statements_where (is_unnamed (is_named program) reached) 0 1 lines
unnamed_same program marks reached are lines =
    where_same (is_unnamed (is_marked marks) reached) (is_unnamed (is_named program) reached)
    (λ number line. ap (λ b. is_some (label_on_line line) && not b && not (reached number)) (are number))
    0 1 lines

-- only a card that begins a statement gives a label
labelled_first : (read : Card) (card : ℕ) →
    cond (is_first (role_in read)) (card_if (is_condition (label_in read)) card) []
    ≡ card_if (is_condition (label_in read)) card
labelled_first skipped card = refl
labelled_first (plain body) card = refl
labelled_first (labelled columns body) card = refl
labelled_first (continued body) card = refl
labelled_first (unknown number) card = refl

-- the statements whose label is spelled as a condition is are the cards that give such a label
pub conditions_same : (number card : ℕ) (lines : List (List ℕ)) →
    statements_where (λ _ line. gives_condition line) number card lines
    ≡ cards_where gives_condition card lines
conditions_same number card [] = refl
conditions_same number card (line ∷ lines) =
    ap (λ c. c ++ statements_where (λ _ l. gives_condition l) (number_after number line) (card + 1) lines)
    (labelled_first (card_of 1 0 (columns_of line)) card)
    ∙ ap (λ r. card_if (gives_condition line) card ++ r)
    (conditions_same (number_after number line) (card + 1) lines)
