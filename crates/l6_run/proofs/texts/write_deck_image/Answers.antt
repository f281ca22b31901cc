use Rattle.std.proofs.Common.{ℕ, List, subst, sym}
use Rattle.l6_image.specs.Text.{text_of_words}
use Rattle.l6_run.specs.Texts.{RefusesCards, WritesImage}
use Rattle.l6_run.proofs.Servings.{text_served}
use Rattle.l6_run.proofs.WordLines.{image_counted}
use Rattle.l6_run.proofs.texts.write_deck_image.Goals as goal

-- the lines of the image's words are its text
pub returns-clause-done : goal.returns-clause-done
returns-clause-done g c =
    let deck = c.args.deck.now in
    let text = text_of_words c.deref.result.now in
    let written = subst (λ (words : List ℕ). WritesImage deck (text_of_words words))
    (sym c.deref.ensures.value) c.in_ok-words.ensures.image in
    text_served (λ _ text. WritesImage deck text) (RefusesCards deck) text _ _ c.write_words.result
    (image_counted deck text written) written c.write_words.ensures.ok c.write_words.ensures.err
