use Rattle.std.proofs.Common.{List, get_or, take, None, sym, subst, arith}
use Rattle.std.proofs.lemmas.List.{take_more}
use Rattle.l6_trace.specs.Following.{Replays}
use Rattle.l6_trace.specs.Tracing.{empty}
use Rattle.l6_trace.specs.declared.call.Call.TheVariants.{Get}
use Rattle.l6_trace.specs.declared.call.Line.{Line}
use Rattle.l6_trace.proofs.Leading.{replays_on}
use Rattle.l6_trace.proofs.trace.replayed.Goals as goal

abbrev none : Line
none = record { number = 0; call = Get 0 0; reply = None }

pub loop-index-preserved : goal.loop-index-preserved
loop-index-preserved c =
    let first = empty c.args.units c.args.names in
    let line = get_or c.args.lines.now c.loop-index.index none in
    subst (λ (ls : List Line). Replays first ls c.answer.new.self)
    (sym (take_more c.args.lines.now c.loop-index.index none (omega (arith, c.loop-index-test.true, c.requires))))
    (replays_on first (take c.loop-index.index c.args.lines.now) c.loop-index.tracer line
    c.answer.result c.answer.new.self c.loop-index.invariant c.answer.ensures.called)
