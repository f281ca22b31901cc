use Rattle.l6_draw.proofs.Stretches.{map_whole}
use Rattle.l6_draw.proofs.laws.map_is_whole.Goals as goal

pub returns : goal.returns
returns c = map_whole
