use Rattle.std.proofs.Common.{◌≡◌, true, false, [], ◌∷◌, List, ℕ, sym, ap, subst, ◌∙◌, inr}
use Rattle.l6_session.specs.Dialogue.{GoesOn, Talked, asked, shown}
use Rattle.l6_session.proofs.Dialogues.{answered_to, asked_for, read_one, talked-more}
use Rattle.l6_session.proofs.conversation.converse.Goals as goal

-- a line that ends the session
pub returns-then-ends : goal.returns-then-ends
returns-then-ends g c =
    let ends = g.A.Answerer.ends_by in
    let passed = g.C.Console.passed in
    let prompt = c.args.prompt.now in
    let line = c.read.new.line.items in
    let there = c.as_slice.ensures.value ∙ c.keep_asked.ensures in
    let ended : ends c.lines.answerer (asked c.lines.last.items line) ≡ true =
    ap (ends c.lines.answerer) (sym there) ∙ sym c.ends.ensures ∙ c.if-ends.true in
    let read = read_one (passed c.show.new.self) (passed c.read.new.self) line c.in_ok-read.field-0
    c.if-not-branch.false c.in_ok-read.ensures in
    record {
      newest = c.lines.last.items;
      between = passed c.lines.console;
      talked = record {
        exchanges = c.lines.invariant.exchanges;
        lead = c.lines.invariant.lead;
        events = c.lines.invariant.events;
      };
      ended = inr (
        line,
        ended,
        asked_for (passed c.lines.console) (passed c.show.new.self) (passed c.read.new.self) prompt line
            c.in_ok-show.ensures read,
      );
    }

-- a line more that was answered
pub lines-preserved : goal.lines-preserved
lines-preserved g c =
    let Answers = g.A.Answerer.Answers in
    let after = g.A.Answerer.after in
    let ends = g.A.Answerer.ends_by in
    let passed = g.C.Console.passed in
    let prompt = c.args.prompt.now in
    let line = c.read.new.line.items in
    let text = c.in_ok-text.text.items in
    let now = c.lines.answerer in
    let there = c.as_slice.ensures.value ∙ c.keep_asked.ensures in
    let there_too = c.as_slice-in-lines.ensures.value ∙ c.keep_asked.ensures in
    let goes_on : ends now (asked c.lines.last.items line) ≡ false =
    ap (ends now) (sym there) ∙ sym c.ends.ensures ∙ c.if-ends.false in
    let read = read_one (passed c.show.new.self) (passed c.read.new.self) line c.in_ok-read.field-0
    c.if-not-branch.false c.in_ok-read.ensures in
    let given_line = asked_for (passed c.lines.console) (passed c.show.new.self)
    (passed c.read.new.self) prompt line c.in_ok-show.ensures read in
    let answered = subst (λ (t : List ℕ). GoesOn (passed c.read.new.self)
    (passed c.show-in-lines.new.self) (shown t ∷ [])) c.as_slice-in-lines-2.ensures.value
    c.in_ok-show-2.ensures in
    let goes = answered_to (passed c.lines.console) (passed c.read.new.self)
    (passed c.show-in-lines.new.self) prompt line text given_line answered in
    let more = talked-more Answers after ends prompt c.args.answerer.now now c.answer.new.self []
    c.lines.last.items (passed c.args.console.now) (passed c.lines.console)
    (passed c.show-in-lines.new.self) line text
    (record {
      exchanges = c.lines.invariant.exchanges;
      lead = c.lines.invariant.lead;
      events = c.lines.invariant.events;
    })
    goes_on
    (subst (λ (l : List ℕ). Answers now l text) there_too c.in_ok-text.ensures.text)
    (c.answer.ensures.after ∙ ap (after now) there_too) goes in
    subst (λ (l : List ℕ). Talked Answers after ends prompt c.args.answerer.now c.answer.new.self [] l
    (passed c.args.console.now) (passed c.show-in-lines.new.self)) (sym c.keep_asked.ensures) more
