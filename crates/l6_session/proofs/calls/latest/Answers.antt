use Rattle.std.proofs.Common.{◌-◌}
use Rattle.l6_session.proofs.Latest.{latest_of}
use Rattle.l6_session.proofs.calls.latest.Goals as goal

-- the last of the returns are the latest
pub returns : goal.returns
returns c = latest_of (c.args.lines - 1) c.further.result c.args.returns.now c.further.ensures
