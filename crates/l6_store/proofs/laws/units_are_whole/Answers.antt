use Rattle.l6_store.proofs.Steps.{units_whole}
use Rattle.l6_store.proofs.laws.units_are_whole.Goals as goal

pub returns : goal.returns
returns c = λ store unit tiles empty below.
    units_whole store.units store.blocks store.order tiles empty unit below
