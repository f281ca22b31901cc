use Rattle.l6_device.proofs.Separators.{line_cut, line_whole}
use Rattle.l6_device.proofs.parts.line_and_rest.Goals as goal

pub returns-in-Some-clause-line : goal.returns-in-Some-clause-line
returns-in-Some-clause-line c = line_cut c.in-Some.ensures.parts

pub returns-clause-line : goal.returns-clause-line
returns-clause-line c = line_whole c.args.text.now c.requires c.in_default.ensures.none
