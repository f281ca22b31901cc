use Rattle.l6_run.proofs.Printouts.{prints_as_deck, prints_as_image, written_prints_as_deck}
use Rattle.l6_run.proofs.laws.images_print_as_decks.Goals as goal

pub returns : goal.returns
returns c =
    let one_way = c.spelling_is_settled.ensures.one_way in
    let one_program = c.images_are_of_one_program.ensures in
    let images_fit = c.images_of_decks_fit.ensures in
    record {
      each = prints_as_image one_way one_program images_fit c.decks_have_images.ensures;
      versions = prints_as_deck one_way one_program images_fit;
      written = written_prints_as_deck one_way one_program images_fit;
    }
