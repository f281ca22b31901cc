use Rattle.std.proofs.Common.{ap, ◌∙◌}
use Rattle.l6_dap.specs.Debugged.{Debugged}
use Rattle.l6_dap.proofs.Relaunching.{launched_again}
use Rattle.l6_dap.proofs.launching.launched_again.Goals as goal

pub returns : goal.returns
returns g c =
    let same = c.in_ok-launch.ensures in
    let before = c.before-2.view_is in
    launched_again c.args.before.now c.in_ok-again.again c.take_stops.new.self c.in_ok-launch.launch
    (same.options ∙ ap (λ (it : Debugged). it.options) before)
    (same.path ∙ ap (λ (it : Debugged). it.path) before)
    (same.entry ∙ ap (λ (it : Debugged). it.stops_on_entry) before)
    (same.only ∙ ap (λ (it : Debugged). it.is_run_only) before)
    c.in_ok-again.ensures c.take_stops.ensures.few c.in_ok-take_stops.ensures.stops
