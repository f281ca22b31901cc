use Rattle.std.proofs.Common.{slice_index, ap, sym, ◌∙◌, arith}
use Rattle.l6_places.specs.inner.View.{board_of}
use Rattle.l6_places.proofs.InTheWay.{cover_start}
use Rattle.l6_places.proofs.tree.Tree.cover.Goals as goal

pub returns : goal.returns
returns c = λ start covers.
    let at = cover_start (board_of c.args.self.now) c.args.level c.args.place start c.requires.told.fits
    covers in
    let small = (c.requires.told.fits.each start covers.upper covers.begins).small in
    c.loop-upper.invariant covers.upper covers.larger
    (omega (arith, small, c.loop-upper-test.false))
    (ap (slice_index c.args.self.now.marks.items) (sym at) ∙ covers.begins)
