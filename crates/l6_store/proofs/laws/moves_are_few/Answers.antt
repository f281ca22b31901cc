use Rattle.l6_store.proofs.Stores.{moves_got, moves_freed}
use Rattle.l6_store.proofs.laws.moves_are_few.Goals as goal

pub returns : goal.returns
returns c = λ store level place small. (moves_got store level small, moves_freed store place)
