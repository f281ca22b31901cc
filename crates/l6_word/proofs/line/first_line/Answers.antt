use Rattle.std.proofs.Common.{sym}
use Rattle.l6_word.proofs.Cuts.{lines_of_cut, lines_of_lacks}
use Rattle.l6_word.proofs.line.first_line.Goals as goal

pub returns-in-Some-clause-lines : goal.returns-in-Some-clause-lines
returns-in-Some-clause-lines c = lines_of_cut c.in-Some.ensures.parts

pub returns-clause-lines : goal.returns-clause-lines
returns-clause-lines c =
    lines_of_lacks c.args.text.now (sym c.if-is_empty.ensures) c.in_default.ensures.none
