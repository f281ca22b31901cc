use Rattle.std.proofs.Common.{◌^◌, ap, sym, ◌∙◌, arith}
use Rattle.l6_places.specs.Board.{Board, places_in}
use Rattle.l6_places.proofs.Counting.{no_places}
use Rattle.l6_places.proofs.board.Board.new.Goals as goal

pub invariant_of-result : goal.invariant_of-result
invariant_of-result c = (
  c.in_ok-new.ensures.told,
  omega (arith, ap (λ (b : Board). b.top) c.in_ok-new.ensures.fresh, c.if-top-gt-MAX_TOP.false),
  sym (ap (λ (b : Board). places_in b.marks) c.in_ok-new.ensures.fresh ∙ no_places (2 ^ c.args.top)),
  omega (arith, ap (λ (b : Board). b.most) c.in_ok-new.ensures.fresh),
  omega (arith, ap (λ (b : Board). b.most) c.in_ok-new.ensures.fresh),
)
