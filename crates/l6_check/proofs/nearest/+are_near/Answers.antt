use Rattle.std.proofs.Common.{◌<◌, length, rules}
use Rattle.l6_check.proofs.Nearness.{one_left}
use Rattle.l6_check.proofs.nearest.+are_near.Goals as goal

pub returns-in_default-empty : goal.returns-in_default-empty
returns-in_default-empty t c =
    let few : length c.args.other.now < 1 = search rules in
    one_left c.args.one.now c.args.other.now few
