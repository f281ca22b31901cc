use Rattle.std.proofs.Common.{subst}
use Rattle.l6_prog.specs.Program.{IsProgram}
use Rattle.l6_prog.proofs.Programs.{is_program}
use Rattle.l6_prog.proofs.program.Program.statements.Goals as goal

pub returns-clause-program : goal.returns-clause-program
returns-clause-program c =
    subst IsProgram c.self.view_is
    (is_program c.self.inside.statements.items c.self.invariant.0 c.self.invariant.1)
