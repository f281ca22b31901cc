use Rattle.l6_session.specs.Answers.{label_text}
use Rattle.l6_session.specs.Texts.{operand_text}
use Rattle.l6_marks.proofs.Pushing.{on_ok, text_on}
use Rattle.l6_session.proofs.answers.push_both.Goals as goal

-- what it reads as, and the statement
pub returns : goal.returns
returns g c =
    let memory = c.args.machine.now.configuration.state.memory in
    on_ok c.push_with_cards.result
    (λ last.
    text_on c.args.text.now.items (operand_text memory c.args.operand.now)
    (label_text c.args.names.now c.args.statement) c.in_ok-push_value.ensures last)
    c.push_with_cards.ensures
