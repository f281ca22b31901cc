-- How the cards of lines are gone through.
use Rattle.std.proofs.Common.{◌≡◌, ℕ, ◌+◌, List, ◌∷◌, ◌++◌, append_assoc, sym, ap, ◌∙◌}
use Rattle.l6_word.specs.Lines.{lines_of}
use Rattle.l6_check.specs.declared.findings.Findings.{Findings}
use Rattle.l6_check.specs.Kept.{Say}
use Rattle.l6_check.specs.Warnings.{card_if, cards_where, has_past, past_card}

-- what the findings say, with the cards of the text that is left, are all of them
pub record SaysSoFar (findings : Findings) (card : ℕ) (rest deck : List ℕ) : Type 0 where
  pub so_far : List ℕ
  pub says : Say past_card so_far findings
  pub whole : so_far ++ cards_where has_past (card + 1) (lines_of rest) ≡ cards_where has_past 1 (lines_of deck)

-- they still are after one more line
pub card_taken : (before after : Findings) (card : ℕ) (line rest others deck : List ℕ) →
    lines_of rest ≡ line ∷ lines_of others →
    ((cards : List ℕ) → Say past_card cards before →
    Say past_card (cards ++ card_if (has_past line) (card + 1)) after) →
    SaysSoFar before card rest deck → SaysSoFar after (card + 1) others deck
card_taken before after card line rest others deck split more far =
    let one = card_if (has_past line) (card + 1) in
    record {
      so_far = far.so_far ++ one;
      says = more far.so_far far.says;
      whole = append_assoc far.so_far one (cards_where has_past (card + 1 + 1) (lines_of others))
          ∙ sym (ap (λ l. far.so_far ++ cards_where has_past (card + 1) l) split)
          ∙ far.whole;
    }
