use Rattle.std.proofs.Common.{refl}
use Rattle.l6_card.specs.Numerals.{card_width}
use Rattle.l6.proofs.worked.unknown_is_refused.Goals as goal

pub returns : goal.returns
unfolding card_width
returns c = refl
