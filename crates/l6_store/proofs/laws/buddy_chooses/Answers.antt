use Rattle.l6_store.proofs.Finding.{chooses}
use Rattle.l6_store.proofs.laws.buddy_chooses.Goals as goal

pub returns : goal.returns
returns c = λ store tiles. chooses store.units store.blocks store.order tiles
