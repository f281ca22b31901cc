use Rattle.std.proofs.Common.{ap}
use Rattle.l6_image.specs.Text.{text_in, text_of_words}
use Rattle.l6_run.proofs.texts.renewed.Goals as goal

pub returns-clause-image : goal.returns-clause-image
unfolding text_in
returns-clause-image c = record {
  fits = c.requires;
  program = c.in_ok-program.program;
  loaded = c.in_ok-program.ensures.sound;
  known = c.in_ok-words.ensures.known;
  written = ap text_of_words c.in_ok-words.ensures.words;
}
