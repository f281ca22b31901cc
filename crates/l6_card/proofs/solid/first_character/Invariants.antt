use Rattle.std.proofs.Common.{◌≡◌, length}
use Rattle.l6_group.specs.Character.{spelled}
use Rattle.l6_card.proofs.solid.first_character.Given as goal

-- the rest spells what all columns do
abbrev pub invariant-loop-column : goal.invariant-loop-column
invariant-loop-column l = spelled l.rest ≡ spelled l.columns

abbrev pub decreases-loop-column : goal.decreases-loop-column
decreases-loop-column l = length l.rest
