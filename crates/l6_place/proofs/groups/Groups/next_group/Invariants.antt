use Rattle.std.proofs.Common.{length}
use Rattle.l6_place.proofs.groups.Groups.next_group.Given as goal

abbrev pub decreases-loop-group : goal.decreases-loop-group
decreases-loop-group l = length l.self.lines.now
