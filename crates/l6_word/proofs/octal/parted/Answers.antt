use Rattle.l6_word.proofs.Octals.{parted}
use Rattle.std.proofs.Common.{arith}
use Rattle.l6_word.proofs.octal.parted.Goals as goal

pub returns : goal.returns
returns c = parted c.args.number (omega arith)
