use Rattle.std.proofs.Common.{length}
use Rattle.l6_check.proofs.field_places.FieldPlaces.add_card.Given as goal

abbrev pub decreases-loop-following : goal.decreases-loop-following
decreases-loop-following l = length l.rest
