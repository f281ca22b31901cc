use Rattle.std.proofs.Common.{ℕ, ◌+◌, ap, arith}
use Rattle.std.proofs.lemmas.Nat.{one_shl}
use Rattle.l6_places.specs.inner.View.{board_of}
use Rattle.l6_places.proofs.InTheWay.{way_of}
use Rattle.l6_places.proofs.tree.Tree.in_the_way.Goals as goal

pub returns-in-None : goal.returns-in-None
returns-in-None c =
    way_of (board_of c.args.self.now) c.args.level c.args.place _ c.requires.told.fits
    c.requires.aligned
    (ap (λ (n : ℕ). c.args.place + n)
    (one_shl c.args.level 32 (omega (arith, c.requires.level, c.requires.top))))
    c.in-None.ensures c.first_block.result c.first_block.ensures
