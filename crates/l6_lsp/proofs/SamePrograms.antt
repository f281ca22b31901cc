-- Decks with the same words spell the same program.
use Rattle.std.proofs.Common.{◌≡◌, List, refl, ap}
use Rattle.l6_prog.specs.Statement.{Parts}
use Rattle.l6_image.specs.Image.{words_of, words_in, HasImage}
use Rattle.l6_image.specs.Text.{text_in, text_of_words}
use Rattle.l6_image.specs.declared.version.Version.TheVariants.{Two}
use Rattle.l6_image.proofs.Texts.{images_are_of_one_program}

-- no words are those of two programs
pub one_program : (one other : List Parts) → HasImage Two one → HasImage Two other →
    words_of one ≡ words_of other → one ≡ other
unfolding text_in
one_program one other has has_other same =
    images_are_of_one_program (text_of_words (words_in Two one)) one other (Two, has, refl)
    (Two, has_other, ap text_of_words same)
