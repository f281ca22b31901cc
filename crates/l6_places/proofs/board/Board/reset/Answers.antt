use Rattle.std.proofs.Common.{◌^◌, ap, sym, ◌∙◌, arith}
use Rattle.l6_places.specs.Board.{Board, places_in}
use Rattle.l6_places.proofs.Counting.{no_places}
use Rattle.l6_places.proofs.board.Board.reset.Goals as goal

pub invariant_of-self : goal.invariant_of-self
invariant_of-self c = (
  c.reset.ensures.told,
  omega (arith, ap (λ (b : Board). b.top) c.reset.ensures.emptied, c.self.invariant.1),
  sym (ap (λ (b : Board). places_in b.marks) c.reset.ensures.emptied ∙ no_places (2 ^ c.self.inside.tree.top)),
  omega (arith, ap (λ (b : Board). b.most) c.reset.ensures.emptied),
  omega (arith, ap (λ (b : Board). b.most) c.reset.ensures.emptied),
)
