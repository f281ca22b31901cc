use Rattle.std.proofs.Common.{subst, sym}
use Rattle.std.specs.Prelude.{IfOk}
use Rattle.l6_steps.specs.State.{RunContext}
use Rattle.l6_session.specs.Answers.{AnswersObeyed}
use Rattle.l6_session.specs.Before.{before_of}
use Rattle.l6_session.specs.Changes.{Seen}
use Rattle.l6_session.specs.DeckSession.{AnswersCommand, DeckSession}
use Rattle.l6_session.specs.declared.before.Before.{Before}
use Rattle.l6_session.specs.inner.SessionRun.{SessionRun}
use Rattle.l6_session.proofs.answering.DeckSession.obey.Goals as goal

-- the session after the answer is the one of which it answers
pub returns-clause-text : goal.returns-clause-text
returns-clause-text g c =
    let rule = g.S.Places.rule in
    let result = c.answer_of-text.result in
    let inside = c.self.inside in
    let context = inside.session.context in
    let obeyed = c.obey.new.self in
    let command = c.args.command.now in
    let told : RunContext → Before → Seen → Type 0 = λ w before seen. IfOk result (λ text.
    AnswersObeyed rule inside.names inside.listed w before seen obeyed.state command text.items) in
    let of_context = subst (λ (w : RunContext). told w c.of-before.result inside.seen)
    c.obey.ensures.context c.answer_of-text.ensures.text in
    let of_before = subst (λ (before : Before). told context before inside.seen) c.of-before.ensures
    of_context in
    let of_seen = subst
    (λ (seen : Seen). told context (before_of rule context inside.session.state) seen)
    c.self.invariant of_before in
    let obeys : DeckSession → SessionRun → Type 0 = λ old session. IfOk result (λ text.
    AnswersCommand rule old.names old.listed old.context old.state session.state command text.items) in
    subst (λ (old : DeckSession). obeys old c.answer_of-text.new.session) c.self.view_is
    (subst (λ (session : SessionRun). obeys (record {
      names = inside.names;
      context = context;
      state = inside.session.state;
      listed = inside.listed;
      refused = inside.is_refused;
    }) session) (sym c.answer_of-text.ensures.same) of_seen)
