use Rattle.std.proofs.Common.{◌≡◌, ap, rules}
use Rattle.l6_image.specs.Image.{words_of}
use Rattle.l6_image.specs.Text.{text_in, text_of_words}
use Rattle.l6_run.proofs.texts.image_of.Goals as goal

pub returns-clause-image : goal.returns-clause-image
unfolding text_in
returns-clause-image c =
    let words : c.in_ok-words.words.items ≡ words_of c.in_ok-assembly.assembly.program = search rules in
    record {
      fits = c.requires;
      assembly = c.in_ok-assembly.assembly;
      spelled = c.in_ok-assembly.ensures.spells.spells;
      known = search rules;
      written = ap text_of_words words;
    }
