use Rattle.std.proofs.Common.{List, get_or, take, Some, None, sym, ap, ◌∙◌, subst, arith}
use Rattle.std.proofs.lemmas.List.{take_more, take_all}
use Rattle.l6_trace.specs.Following.{Leads, agrees}
use Rattle.l6_trace.specs.declared.call.Call.TheVariants.{Get}
use Rattle.l6_trace.specs.declared.call.Line.{Line}
use Rattle.l6_trace.proofs.Leading.{leads_on, there_is}
use Rattle.l6_trace.proofs.following.follow.Goals as goal

abbrev none : Line
none = record { number = 0; call = Get 0 0; reply = None }

pub returns-in_default : goal.returns-in_default
returns-in_default c = record {
  followed =
      let there = there_is c.args.tracer.now c.args.lines.now c.loop-index.index None
      c.loop-index.tracer c.answer.new.self none c.loop-index-test.true c.loop-index.invariant
      c.in_default.ensures.called in
      (c.loop-index.index, there.0, ap (λ (l : Line). l.number) there.1);
}

pub returns-then-not-agrees : goal.returns-then-not-agrees
returns-then-not-agrees c = record {
  followed =
      let there = there_is c.args.tracer.now c.args.lines.now c.loop-index.index
      (Some c.in-Some.answer) c.loop-index.tracer c.answer.new.self none c.loop-index-test.true
      c.loop-index.invariant c.in-Some.ensures.called in (
        there.0,
        ap (λ (l : Line). agrees c.in-Some.answer l.reply) there.1 ∙ sym c.agrees.ensures
            ∙ c.if-not-agrees.true,
      );
}

pub loop-index-preserved : goal.loop-index-preserved
loop-index-preserved c =
    subst (λ (ls : List Line). Leads c.args.tracer.now ls c.answer.new.self)
    (sym (take_more c.args.lines.now c.loop-index.index none c.loop-index-test.true))
    (leads_on c.args.tracer.now (take c.loop-index.index c.args.lines.now) c.loop-index.tracer
    (get_or c.args.lines.now c.loop-index.index none) c.in-Some.answer c.answer.new.self
    c.loop-index.invariant c.in-Some.ensures.called
    (sym c.agrees.ensures ∙ c.if-not-agrees.false))

pub returns : goal.returns
returns c = record {
  followed = (
    c.loop-index.tracer,
    subst (λ (ls : List Line). Leads c.args.tracer.now ls c.loop-index.tracer)
        (take_all c.loop-index.index c.args.lines.now (omega (arith, c.loop-index-test.false)))
        c.loop-index.invariant,
  );
}
