use Rattle.l6_asm.proofs.Listed.{each_is_listed}
use Rattle.l6_asm.proofs.laws.each_statement_is_listed.Goals as goal

pub returns : goal.returns
returns c = each_is_listed
