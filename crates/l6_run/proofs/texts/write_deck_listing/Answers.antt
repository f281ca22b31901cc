use Rattle.std.proofs.Common.{◌≡◌, ◌^◌, ◌<◌, length, map, ◌∙◌, ap, rules}
use Rattle.std.proofs.lemmas.Result.{err_from_is_err_and}
use Rattle.l6_image.specs.Image.{statement_words}
use Rattle.l6_word.specs.Lines.{lines_of}
use Rattle.l6_asm.specs.Listing.{cards_listed, end_listed}
use Rattle.l6_run.specs.Texts.{RefusesCards, WritesListing}
use Rattle.l6_run.proofs.Listings.{both_counted, both_listed, both_served, cards_served}
use Rattle.l6_run.proofs.texts.write_deck_listing.Goals as goal

-- the lines of the cards did not go out whole
pub returns-in_err-sent-clause-done : goal.returns-in_err-sent-clause-done
returns-in_err-sent-clause-done g c =
    let p = err_from_is_err_and c.from_residual-in_err-sent.result
    c.from_residual-in_err-sent.ensures.1 in
    let deck = c.args.deck.now in
    let assembly = c.in_ok-assembly.assembly in
    let cards = c.new-cards.result in
    let end = c.in_ok-end.end.items in
    let spells = c.in_ok-assembly.ensures.spells.spells in
    let fits = c.in_ok-check.ensures.ok in
    let are : cards ≡ cards_listed assembly.program 1 0 (lines_of deck) =
    c.new-cards.ensures assembly.program
    (c.in_ok-words.ensures ∙ ap (map statement_words) c.program.ensures) in
    let small : length end < 2 ^ 63 = search rules in
    rw (p.1, p.2)
    (cards_served (λ _ text. WritesListing deck text) (RefusesCards deck) cards end
    (both_counted deck cards end assembly fits spells are c.in_ok-end.ensures small)
    (both_listed deck cards end assembly fits spells are c.in_ok-end.ensures) _ _
    c.in_err-sent.field-0.0 c.in_err-sent.ensures.err)

-- they did, and then the end of the listing, or a front of it
pub returns-clause-done : goal.returns-clause-done
returns-clause-done g c =
    let deck = c.args.deck.now in
    let assembly = c.in_ok-assembly.assembly in
    let cards = c.new-cards.result in
    let end = c.as_slice.result.now in
    let spells = c.in_ok-assembly.ensures.spells.spells in
    let fits = c.in_ok-check.ensures.ok in
    let are : cards ≡ cards_listed assembly.program 1 0 (lines_of deck) =
    c.new-cards.ensures assembly.program
    (c.in_ok-words.ensures ∙ ap (map statement_words) c.program.ensures) in
    let is : end ≡ end_listed assembly = c.as_slice.ensures.value ∙ c.in_ok-end.ensures in
    let small : length end < 2 ^ 63 = search rules in
    both_served (λ _ text. WritesListing deck text) (RefusesCards deck) cards end
    (both_counted deck cards end assembly fits spells are is small)
    (both_listed deck cards end assembly fits spells are is) c.in_ok-sent.sent _ _ _ _
    c.in_ok-sent.ensures.ok c.in_ok-sent.ensures.count c.write_text.ensures.ok c.write_text.ensures.err
