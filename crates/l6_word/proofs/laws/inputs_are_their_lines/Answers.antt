use Rattle.l6_word.proofs.Inputs.{line_by_line, whole_lines}
use Rattle.l6_word.proofs.laws.inputs_are_their_lines.Goals as goal

pub returns-clause-lines : goal.returns-clause-lines
returns-clause-lines c = line_by_line

pub returns-clause-whole : goal.returns-clause-whole
returns-clause-whole c = whole_lines
