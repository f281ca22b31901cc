use Rattle.std.proofs.Common.{◌≡◌, sym, ◌∙◌, arith}
use Rattle.l6_steps.specs.Numbering.{last_number}
use Rattle.l6_history.proofs.Sought.{nowhere_forward}
use Rattle.l6_history.proofs.history.History.to_next.Goals as goal

-- where one stops nowhere, it goes to the last state
pub returns-then-is_nowhere-clause-number : goal.returns-then-is_nowhere-clause-number
returns-then-is_nowhere-clause-number g c =
    let rule = g.S.Places.rule in
    let context = c.args.self.now.context in
    let far = c.to.ensures.number in
    let bound = c.to.ensures.bound in
    let last : c.to.new.self.number ≡ last_number rule context = omega (arith, far, bound) in
    last
    ∙ sym (nowhere_forward rule context c.args.stop.now c.args.self.now.number
    (sym c.is_nowhere.ensures ∙ c.if-is_nowhere.true))
