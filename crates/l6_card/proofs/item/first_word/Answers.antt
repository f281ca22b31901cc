use Rattle.std.proofs.Common.{sym, ◌∙◌}
use Rattle.l6_card.proofs.Bodies.{word_first, closing_first}
use Rattle.l6_card.proofs.item.first_word.Goals as goal

pub returns-then-begins_with_closing-clause-first :
    goal.returns-then-begins_with_closing-clause-first
returns-then-begins_with_closing-clause-first c =
    let cut = c.split_at_parenthesis in
    closing_first c.args.body.now cut.result.0.now cut.result.1.now cut.ensures
    (sym c.begins_with_closing.ensures ∙ c.if-begins_with_closing.true)

pub returns-else-begins_with_closing : goal.returns-else-begins_with_closing
returns-else-begins_with_closing c =
    let cut = c.split_at_parenthesis in
    let found =
    word_first c.args.body.now cut.result.0.now cut.result.1.now cut.ensures
    c.requires (sym c.begins_with_closing.ensures ∙ c.if-begins_with_closing.false) in
    record { first = found.each; shorter = found.shorter }
