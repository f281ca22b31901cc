use Rattle.std.proofs.Common.{false, true, None, rules}
use Rattle.l6_session.proofs.Repeats.{restored}
use Rattle.l6_session.proofs.session.Session.until.Goals as goal

-- the breakpoint and its test are as they were
pub returns-clause-state : goal.returns-clause-state
returns-clause-state g c =
    let put_back = restored c.args.self.now.state.stop.breakpoints c.args.statement true
    c.has_breakpoint-had_breakpoint.result false c.has_breakpoint-had_breakpoint.ensures in
    let given_back = restored c.self.inside.stop.tests c.args.statement None
    c.set_test-had_test.result None c.set_test-had_test.ensures.had in
    search (rules, put_back, given_back)
