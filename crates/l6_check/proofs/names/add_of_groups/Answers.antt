use Rattle.std.proofs.Common.{[], refl}
use Rattle.l6_check.specs.Missing.{missing_in_group}
use Rattle.l6_check.proofs.MissingSteps.{all_added, next_added, none_added}
use Rattle.l6_check.proofs.names.add_of_groups.Goals as goal

pub loop-group-init : goal.loop-group-init
loop-group-init c = none_added c.args.given.now.entries [] 0 c.args.missing.now refl

pub loop-group-preserved : goal.loop-group-preserved
loop-group-preserved c =
    next_added c.args.given.now.entries (missing_in_group c.args.given.now.entries) 2 c.args.groups.now c.loop-group.group-index
    c.group-item.result c.args.missing.now c.loop-group.missing c.add_of_group.new.missing
    c.loop-group-test.true c.group-item.is c.loop-group.invariant c.in_ok-add_of_group.ensures

pub returns : goal.returns
returns c =
    all_added c.args.given.now.entries (missing_in_group c.args.given.now.entries) 2 c.args.groups.now c.loop-group.group-index
    c.args.missing.now c.loop-group.missing c.loop-group-test.false
    c.loop-group.auto.group-index-end c.loop-group.invariant
