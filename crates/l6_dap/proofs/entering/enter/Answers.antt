use Rattle.std.proofs.Common.{sym, ◌∙◌}
use Rattle.l6_dap.proofs.IntoCall.{into_on, into_stays}
use Rattle.l6_dap.proofs.entering.enter.Goals as goal

pub returns-then-not-is_on_its_way : goal.returns-then-not-is_on_its_way
returns-then-not-is_on_its_way c =
    sym (into_stays c.args.actions c.loop.counter c.loop.session c.is_on_its_way.new.session c.loop-test.true
    c.is_on_its_way.ensures.moved (sym c.if-not-is_on_its_way.ensures.answer)) ∙ c.loop.invariant

pub loop-preserved : goal.loop-preserved
loop-preserved c =
    sym (into_on c.args.actions c.loop.counter c.loop.session c.is_on_its_way.new.session c.loop-test.true
    c.is_on_its_way.ensures.moved (sym c.if-not-is_on_its_way.ensures.answer)) ∙ c.loop.invariant
