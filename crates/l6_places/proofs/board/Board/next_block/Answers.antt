use Rattle.std.proofs.Common.{ℕ, ap, subst}
use Rattle.l6_places.specs.Board.{Board, IsNextBlock}
use Rattle.l6_places.specs.inner.View.{board_of}
use Rattle.l6_places.specs.inner.Ways.{IsFirstBlock}
use Rattle.l6_places.proofs.Following.{next_of}
use Rattle.l6_places.proofs.board.Board.next_block.Goals as goal

pub returns : goal.returns
returns c =
    let b = board_of c.self.inside.tree in
    let found = c.first_block.result in
    let first = subst (λ (end : ℕ). IsFirstBlock b c.args.from end found)
    (ap (λ (p : ℕ × ℕ). p.1) c.bounds-end.ensures) c.first_block.ensures in
    subst (λ (b : Board). IsNextBlock b c.args.from found) c.self.view_is
    (next_of b c.self.invariant.0.fits c.args.from found first)
