use Rattle.std.proofs.Common.{◌≡◌, ap, ◌∙◌, rules}
use Rattle.std.specs.List.{list_all}
use Rattle.l6_image.specs.Image.{statement_words}
use Rattle.l6_word.specs.Word.{is_word}
use Rattle.l6_image.specs.declared.version.Version.TheVariants.{Two}
use Rattle.l6_image.proofs.Fitness.{statement_words-words}
use Rattle.l6_image.proofs.encode.writing.statement_words.Goals as goal

pub returns-clause-fit : goal.returns-clause-fit
returns-clause-fit c targets =
    let s = c.args.statement.now in
    let words : c.push_statement.new.words.items ≡ statement_words s = search rules in
    ap (list_all is_word) words
    ∙ statement_words-words Two s c.requires c.values_hold.ensures targets
