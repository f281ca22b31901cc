use Rattle.std.proofs.Common.{All, map}
use Rattle.serde_json.specs.View.{view}
use Rattle.l6_lsp.specs.Fixes as spec
use Rattle.l6_lsp.proofs.fixes.fixes.Given as goal

-- what is offered so far mends
abbrev pub invariant-loop-finding : goal.invariant-loop-finding
invariant-loop-finding l = All (spec.IsFix l.uri l.document.text.items) (map view l.list.items)
