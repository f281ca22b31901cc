use Rattle.l6_image.proofs.Texts.{images_are_of_one_program}
use Rattle.l6_image.proofs.laws.images_are_of_one_program.Goals as goal

pub returns : goal.returns
returns c = images_are_of_one_program
