use Rattle.l6_asm.proofs.StatementValues.{decks_have_images}
use Rattle.l6_asm.proofs.laws.decks_have_images.Goals as goal

pub returns : goal.returns
returns c = decks_have_images
