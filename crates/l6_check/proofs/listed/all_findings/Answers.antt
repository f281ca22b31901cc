use Rattle.l6_check.proofs.listed.all_findings.Goals as goal

pub returns : goal.returns
returns c = record {
  report = c.in_ok-report.report;
  is = c.in_ok-report.ensures;
  sorted = c.in_ok-findings.ensures;
}
