use Rattle.std.proofs.Common.{List, [], ◌∷◌, ◌++◌, get_or, take, Option, None, sym, subst}
use Rattle.std.proofs.lemmas.List.{take_more}
use Rattle.l6_trace.specs.Judging.{IsJudged}
use Rattle.l6_trace.specs.declared.call.Call.TheVariants.{Get}
use Rattle.l6_trace.specs.declared.call.Line.{Line}
use Rattle.l6_trace.specs.declared.finding.Finding.{Finding}
use Rattle.l6_trace.proofs.Judged.{judged_on}
use Rattle.l6_trace.proofs.judging.judge_lines.Goals as goal

abbrev none : Line
none = record { number = 0; call = Get 0 0; reply = None }

pub loop-index-preserved : goal.loop-index-preserved
loop-index-preserved c =
    let first = c.args.judge.now in
    let line = get_or c.args.lines.now c.loop-index.index none in
    let founds = c.loop-index.founds.items in
    let found = c.judge-found.result in
    let next = c.judge-found.new.self in
    subst (λ (ls : List Line). IsJudged first ls c.push.new.self.items next)
    (sym (take_more c.args.lines.now c.loop-index.index none c.loop-index-test.true))
    (subst (λ (fs : List (Option Finding)). IsJudged first (take c.loop-index.index c.args.lines.now ++ line ∷ []) fs next)
    (sym c.in_ok-push.ensures.items)
    (judged_on first (take c.loop-index.index c.args.lines.now) founds c.loop-index.judge line found next
    c.loop-index.invariant c.judge-found.ensures.judged))
