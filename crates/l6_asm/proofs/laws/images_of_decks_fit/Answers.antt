use Rattle.l6_asm.proofs.ImageLengths.{images_of_decks_fit}
use Rattle.l6_asm.proofs.laws.images_of_decks_fit.Goals as goal

pub returns : goal.returns
returns c = images_of_decks_fit
