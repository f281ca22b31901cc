use Rattle.std.proofs.Common.{◌≡◌, ◌++◌, ◌∷◌, ◌∙◌, ap, sym, rules}
use Rattle.l6_asm.specs.Listing.{word_line}
use Rattle.l6_asm.proofs.CardsLeft.{word_added}
use Rattle.l6_asm.proofs.card_lines.CardLines.add_line.Goals as goal

pub returns-in-Some-clause-line : goal.returns-in-Some-clause-line
returns-in-Some-clause-line c =
    let text = c.args.text.now.items in
    let words = c.self.inside.words.now in
    let word = c.in-Some.word.now in
    let following = c.in-Some.following.now in
    let are : words ≡ word ∷ following = search rules in
    let is : c.from_value.result ≡ word = search rules in
    let added : c.push_word.new.text.items ≡ text ++ word_line word = search (rules, is) in
    ap (λ left. text ++ left) (sym c.self.view_is)
    ∙ word_added text c.push_word.new.text.items word words following _ are added
