use Rattle.std.proofs.Common.{slice_index, ap, sym, ◌∙◌, arith}
use Rattle.l6_places.specs.Board.{Board, places_in}
use Rattle.l6_places.specs.inner.View.{board_of}
use Rattle.l6_places.proofs.Counting.{count_released, level_tells}
use Rattle.l6_places.proofs.board.Board.try_free.Goals as goal

pub size_of-requires : goal.size_of-requires
size_of-requires c =
    let mark = slice_index c.self.inside.tree.marks.items c.args.place in
    let begins = level_tells mark c.in-Some.level (sym c.level_at.ensures ∙ c.in-Some.is) in
    omega (
      arith,
      c.self.invariant.1,
      (c.self.invariant.0.fits.each c.args.place c.in-Some.level begins).small,
    )

pub overflow_sub-self : goal.overflow_sub-self
overflow_sub-self c =
    let mark = slice_index c.self.inside.tree.marks.items c.args.place in
    let begins = level_tells mark c.in-Some.level (sym c.level_at.ensures ∙ c.in-Some.is) in
    omega (
      arith,
      c.size_of.ensures,
      c.self.invariant.2,
      count_released (board_of c.self.inside.tree) c.self.inside.tree.nodes.items c.self.invariant.0
          c.in-Some.level c.args.place begins,
    )

pub invariant_of-self : goal.invariant_of-self
invariant_of-self c =
    let mark = slice_index c.self.inside.tree.marks.items c.args.place in
    let begins = level_tells mark c.in-Some.level (sym c.level_at.ensures ∙ c.in-Some.is) in
    let count = count_released (board_of c.self.inside.tree) c.self.inside.tree.nodes.items
    c.self.invariant.0 c.in-Some.level c.args.place begins in (
      c.release.ensures.told,
      omega (arith, ap (λ (b : Board). b.top) c.release.ensures.released, c.self.invariant.1),
      omega (
        arith,
        ap (λ (b : Board). places_in b.marks) c.release.ensures.released,
        c.size_of.ensures,
        c.self.invariant.2,
        count,
      ),
      omega (
        arith,
        ap (λ (b : Board). b.most) c.release.ensures.released,
        c.size_of.ensures,
        c.self.invariant.2,
        c.self.invariant.3,
        count,
      ),
      omega (arith, ap (λ (b : Board). b.most) c.release.ensures.released, c.self.invariant.4),
    )
