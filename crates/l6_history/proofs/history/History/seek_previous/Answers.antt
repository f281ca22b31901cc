use Rattle.std.proofs.Common.{◌≡◌, ◌≤◌, ap, arith}
use Rattle.std.specs.Prelude.{unwrap_or}
use Rattle.l6_steps.specs.Numbering.{last_number}
use Rattle.l6_history.specs.inner.Seeking.{is_met_back, previous_met}
use Rattle.l6_history.proofs.Sought.{last_within, met_back}
use Rattle.l6_history.proofs.history.History.seek_previous.Goals as goal

-- one goes to the latest one, or to the start
pub returns-clause-number : goal.returns-clause-number
returns-clause-number g c =
    let rule = g.S.Places.rule in
    let context = c.args.self.now.context in
    let sought = g.W.Seeker.goal c.args.watch.now in
    let here = c.number-here.result in
    let last = c.latest.result in
    let found : previous_met rule context sought here ≡ unwrap_or last 0 =
    met_back rule context sought here last c.latest.ensures.last in
    let within : unwrap_or last 0 ≤ here =
    last_within (is_met_back rule context sought) here last c.latest.ensures.last in
    let far : last_number rule c.latest.new.self.context ≡ last_number rule context =
    ap (last_number rule) c.latest.ensures.context in
    let at = ap (previous_met rule context sought) c.number-here.ensures.value in
    omega (
      arith,
      found,
      within,
      far,
      at,
      c.number-here.ensures.within,
      c.unwrap_or-number.ensures,
      c.to.ensures.number,
    )
