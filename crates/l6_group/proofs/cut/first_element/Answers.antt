use Rattle.l6_group.proofs.Cuts.{elements_first}
use Rattle.l6_group.proofs.cut.first_element.Goals as goal

pub returns : goal.returns
returns c =
    let cut = c.split_once.ensures in
    elements_first c.args.columns.now c.split_once.result cut.none cut.parts
