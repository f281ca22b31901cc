use Rattle.std.specs.Prelude.{codes}
use Rattle.l6_session.specs.Texts.{broken_text}
use Rattle.l6_marks.proofs.Pushing.{on_ok, text_on}
use Rattle.l6_session.proofs.values.push_unfollowed.Goals as goal

-- the words, and why
pub returns : goal.returns
returns g c =
    on_ok c.push_broken.result
    (λ last.
    text_on c.args.text.now.items (codes " can't be followed: ")
    (broken_text c.args.machine.now.configuration.state.memory c.args.chain.now)
    c.in_ok-extend_from_slice.ensures.items last)
    c.push_broken.ensures
