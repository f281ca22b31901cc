use Rattle.l6_run.proofs.Printouts.{prints_loaded_one, prints_one}
use Rattle.l6_run.proofs.laws.printouts_are_determined.Goals as goal

pub returns : goal.returns
returns c =
    let one_end = c.runs_are_determined.ensures.one_end in
    record {
      decks = prints_one c.spelling_is_settled.ensures.one_way one_end;
      images = prints_loaded_one c.images_are_of_one_program.ensures one_end;
    }
