use Rattle.std.proofs.Common.{ap, ◌∙◌}
use Rattle.serde_json.specs.View.{view}
use Rattle.l6_lsp.specs.Diagnostics as spec
use Rattle.l6_lsp.proofs.Findings.{said_by_parts}
use Rattle.l6_lsp.proofs.diagnostics.diagnostic.Goals as goal

pub returns : goal.returns
returns c = record {
  message = view c.in_ok-message.message;
  related = view c.in_ok-related.related;
  is = said_by_parts _ _ _ _ _ _ _ _ _ c.in_ok-value.ensures c.in_ok-range.ensures
      (c.severity_number-severity.ensures ∙ ap spec.severity_number c.severity.ensures) c.code-code.ensures;
}
