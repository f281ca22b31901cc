use Rattle.std.proofs.Common.{◌≡◌, ap, ◌∙◌, rules}
use Rattle.std.specs.List.{list_all}
use Rattle.l6_image.specs.Image.{words_of}
use Rattle.l6_word.specs.Word.{is_word}
use Rattle.l6_image.specs.declared.version.Version.TheVariants.{Two}
use Rattle.l6_image.proofs.Fitness.{words_in-words}
use Rattle.l6_image.proofs.text.text_of.Goals as goal

pub text_of_words-requires : goal.text_of_words-requires
text_of_words-requires c =
    let words : c.deref.result.now ≡ words_of c.args.program.now = search rules in
    ap (list_all is_word) words ∙ words_in-words Two c.args.program.now c.in_ok-words.ensures.known
