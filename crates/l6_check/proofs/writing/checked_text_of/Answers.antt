use Rattle.l6_check.proofs.Verdicts.{verdict_counted}
use Rattle.l6_check.proofs.writing.checked_text_of.Goals as goal

pub returns-clause-program : goal.returns-clause-program
returns-clause-program c =
    verdict_counted c.args.deck.now c.in_ok-report.ensures.text c.in_ok-report.report c.error_count-errors.result
    c.in_ok-report.ensures.errors c.error_count-errors.ensures.some

pub returns-clause-counted : goal.returns-clause-counted
returns-clause-counted c =
    record {
      report = c.in_ok-report.report;
      is = c.in_ok-report.ensures;
      counted = c.error_count-errors.ensures.counted;
    }
