use Rattle.std.proofs.Common.{arith}
use Rattle.std.proofs.lemmas.Nat.{pow_pos}
use Rattle.l6_store.proofs.Loops.{buddy_holds}
use Rattle.l6_store.proofs.piece.may_join.Goals as goal

pub is_listed-requires : goal.is_listed-requires
is_listed-requires c =
    let is_aligned = buddy_holds c.args.arena.now.units c.args.level c.args.place
    c.if-level-lt-LARGEST_LEVEL.true c.requires in
    omega (arith, is_aligned.within, c.buddy_of.ensures, pow_pos c.args.level)
