use Rattle.std.proofs.Common.{map, take}
use Rattle.serde_json.specs.View.{view}
use Rattle.l6_lsp.specs.Diagnostics as spec
use Rattle.l6_lsp.proofs.diagnostics.diagnostics.Given as goal

-- what came so far is said
abbrev pub invariant-loop-finding : goal.invariant-loop-finding
invariant-loop-finding l =
    spec.AreDiagnostics l.deck (take l.finding-index l.finding-items) (map view l.list.items)
