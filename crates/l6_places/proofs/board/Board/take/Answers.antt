use Rattle.std.proofs.Common.{◌^◌, ap, sym, subst, arith}
use Rattle.l6_places.specs.Board.{Board, IsOpen, places_in, taken}
use Rattle.l6_places.specs.inner.View.{board_of}
use Rattle.l6_places.proofs.Counting.{few_places, count_taken}
use Rattle.l6_places.proofs.Multiples.{size_le}
use Rattle.l6_places.proofs.Values.{larger_most, larger_right}
use Rattle.l6_places.proofs.board.Board.take.Goals as goal

pub overflow_add-used : goal.overflow_add-used
overflow_add-used c =
    let top = ap (λ (b : Board). b.top) c.self.view_is in
    let size = size_le c.args.level 24 (omega (arith, c.requires.level, top, c.self.invariant.1)) in
    omega (
      arith,
      size,
      c.size_of.ensures,
      c.self.invariant.2,
      few_places (board_of c.self.inside.tree) c.self.inside.tree.nodes.items c.self.invariant.0
          c.self.invariant.1,
    )

pub size_of-requires : goal.size_of-requires
size_of-requires c =
    omega (arith, c.requires.level, ap (λ (b : Board). b.top) c.self.view_is, c.self.invariant.1)

pub take-requires-clause-used : goal.take-requires-clause-used
take-requires-clause-used c =
    let is_open = subst (λ (b : Board). IsOpen b (2 ^ c.args.level) c.args.place) (sym c.self.view_is)
    c.requires.is_open in
    omega (
      arith,
      c.size_of.ensures,
      c.self.invariant.2,
      count_taken (board_of c.self.inside.tree) c.self.inside.tree.nodes.items c.self.invariant.0
          c.args.level c.args.place is_open,
    )

pub invariant_of-self : goal.invariant_of-self
invariant_of-self c =
    let b = board_of c.self.inside.tree in
    let is_open = subst (λ (b : Board). IsOpen b (2 ^ c.args.level) c.args.place) (sym c.self.view_is)
    c.requires.is_open in
    let count = count_taken b c.self.inside.tree.nodes.items c.self.invariant.0 c.args.level c.args.place
    is_open in (
      c.take.ensures.told,
      omega (arith, ap (λ (b : Board). b.top) c.take.ensures.taken, c.self.invariant.1),
      omega (
        arith,
        ap (λ (b : Board). places_in b.marks) c.take.ensures.taken,
        c.size_of.ensures,
        c.self.invariant.2,
        count,
      ),
      omega (
        arith,
        ap (λ (b : Board). b.most) c.take.ensures.taken,
        larger_right b.most (places_in (taken b c.args.level c.args.place).marks),
        c.size_of.ensures,
        c.self.invariant.2,
        count,
      ),
      omega (
        arith,
        ap (λ (b : Board). b.most) c.take.ensures.taken,
        ap (λ (b : Board). b.top) c.take.ensures.taken,
        ap (λ (b : Board). places_in b.marks) c.take.ensures.taken,
        larger_most b.most (places_in (taken b c.args.level c.args.place).marks) 281474976710656
            c.self.invariant.4
            (omega (
              arith,
              ap (λ (b : Board). places_in b.marks) c.take.ensures.taken,
              few_places (board_of c.take.new.self) c.take.new.self.nodes.items c.take.ensures.told
                  (omega (arith, ap (λ (b : Board). b.top) c.take.ensures.taken, c.self.invariant.1)),
            )),
      ),
    )
