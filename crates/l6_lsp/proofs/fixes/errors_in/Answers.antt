use Rattle.std.proofs.Common.{◌+◌, ap, arith, ◌∙◌}
use Rattle.l6_lsp.specs.Fixes as spec
use Rattle.l6_lsp.proofs.Errors.{errors_next}
use Rattle.l6_lsp.proofs.fixes.errors_in.Goals as goal

pub loop-finding-preserved : goal.loop-finding-preserved
loop-finding-preserved c = (
  ap (λ n. c.loop-finding.count + n)
      (c.errors_by-count.ensures.value ∙ ap spec.errors_by c.severity.ensures)
      ∙ errors_next c.args.findings.now c.loop-finding.finding-index c.loop-finding.count _ (omega arith)
      c.loop-finding.invariant.0,
  omega (arith, c.loop-finding.invariant.1, c.errors_by-count.ensures.few),
)
