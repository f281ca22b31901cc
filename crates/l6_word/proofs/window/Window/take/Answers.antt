use Rattle.std.proofs.Common.{arith}
use Rattle.std.proofs.lemmas.Nat.{and_mask}
use Rattle.l6_word.proofs.window.Window.take.Goals as goal

pub returns-clause-value : goal.returns-clause-value
returns-clause-value c = grind (arith, and_mask)
