use Rattle.std.proofs.Common.{refl}
use Rattle.l6_store.proofs.Calls.{first_at}
use Rattle.l6_store.proofs.tag.block_level.Goals as goal

pub returns : goal.returns
returns c =
    first_at c.args.tags.now c.args.tags.now c.args.place c.level_at.result c.unwrap.result refl
    c.level_at.ensures c.unwrap.ensures
