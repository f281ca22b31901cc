use Rattle.std.proofs.Common.{sym, ◌∙◌, arith}
use Rattle.l6_history.proofs.Sought.{nowhere_back}
use Rattle.l6_history.proofs.history.History.to_previous.Goals as goal

-- where one stops nowhere, it goes to the start
pub returns-then-is_nowhere-clause-number : goal.returns-then-is_nowhere-clause-number
returns-then-is_nowhere-clause-number g c =
    let none = nowhere_back g.S.Places.rule c.args.self.now.context c.args.stop.now
    c.args.self.now.number (sym c.is_nowhere.ensures ∙ c.if-is_nowhere.true) in
    omega (arith, none, c.to.ensures.number)
