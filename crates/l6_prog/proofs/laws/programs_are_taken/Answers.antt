use Rattle.l6_prog.proofs.Programs.{takes_just_programs}
use Rattle.l6_prog.proofs.laws.programs_are_taken.Goals as goal

pub returns : goal.returns
returns c = takes_just_programs
