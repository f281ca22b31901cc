use Rattle.std.proofs.Common.{subst, sym}
use Rattle.std.specs.Prelude.{IfOk}
use Rattle.l6_session.specs.DeckSession.{AnswersCommand, AnswersReading, DeckSession}
use Rattle.l6_session.specs.declared.command.Reading.{Reading}
use Rattle.l6_session.proofs.answering.DeckSession.answer_reading.Goals as goal

-- the session after a command is the one of which it is answered
pub returns-in-Asked-clause-text : goal.returns-in-Asked-clause-text
returns-in-Asked-clause-text g c =
    let rule = g.S.Places.rule in
    let result = c.obey.result in
    let inside = c.self.inside in
    let context = inside.session.context in
    let state = inside.session.state in
    let command = c.in-Asked.command in
    let obeyed = subst (λ (new : DeckSession). IfOk result (λ text.
    AnswersCommand rule inside.names inside.listed context state new.state command text.items))
    c.obey.ensures.after c.obey.ensures.text in
    let read = subst (λ (reading : Reading). IfOk result (λ text.
    AnswersReading rule inside.names inside.listed context state reading text.items))
    (sym c.in-Asked.is) obeyed in
    subst (λ (old : DeckSession). IfOk result (λ text.
    AnswersReading rule old.names old.listed old.context old.state c.args.reading.now text.items))
    c.self.view_is read
