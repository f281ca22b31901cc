use Rattle.std.proofs.Common.{◌≡◌, ◌-◌, ap, ◌∙◌, rules}
use Rattle.std.specs.List.{list_all}
use Rattle.std.specs.Prelude.{slice_set}
use Rattle.l6_word.specs.Word.{is_word}
use Rattle.l6_image.specs.Image.{words_in, words_of, HasImage}
use Rattle.l6_image.specs.declared.version.Version.TheVariants.{Two}
use Rattle.l6_image.proofs.Fitness.{words_in-words}
use Rattle.l6_image.proofs.encode.writing.words_of.Goals as goal

-- the words of a program are words
pub returns-clause-fit : goal.returns-clause-fit
unfolding words_in
returns-clause-fit c =
    let program = c.args.program.now in
    let known : HasImage Two program = search rules in
    let words : slice_set c.push_statements.new.words.items 2 (c.len.result - 3) ≡ words_of program =
    search rules in
    ap (list_all is_word) words ∙ words_in-words Two program known
