use Rattle.std.proofs.Common.{◌≡◌, ℕ, ◌+◌, ◌≤◌, ◌++◌, List, length}
use Rattle.l6_word.specs.Lines.{lines_of}
use Rattle.l6_check.specs.OnCard.{AreOnTheirCards}
use Rattle.l6_check.specs.Kept.{Say}
use Rattle.l6_check.specs.Labels.{labels_after, labels_given, twice_after, twice_labelled, twice_said}
use Rattle.l6_check.proofs.labels.labels_of.Given as goal

-- the labels so far, with those of the lines that are left, are those of all
abbrev pub invariant-loop-line : goal.invariant-loop-line
invariant-loop-line l = record {
  given : labels_after l.given.entries (l.card + 1) (lines_of l.rest) ≡ labels_given l.deck;
  twice : (so_far : List (ℕ × ℕ)) × Say twice_said so_far l.twice
      × (so_far ++ twice_after l.given.entries (l.card + 1) (lines_of l.rest) ≡ twice_labelled l.deck);
  places : AreOnTheirCards l.twice;
  few : l.twice.count ≤ l.card;
  numbers : l.card + length l.rest ≤ length l.deck;
}

abbrev pub decreases-loop-line : goal.decreases-loop-line
decreases-loop-line l = length l.rest
