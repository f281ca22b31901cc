use Rattle.std.proofs.Common.{◌≡◌, map, take}
use Rattle.serde_json.specs.View.{view}
use Rattle.l6_dap.specs.Targets.{target_value}
use Rattle.l6_dap.proofs.targets.target_values.Given as goal

abbrev pub invariant-loop-call : goal.invariant-loop-call
invariant-loop-call l = map view l.list.items ≡ map (target_value l.labels.entries) (take l.call-index l.calls)
