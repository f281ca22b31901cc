use Rattle.std.proofs.Common.{◌≡◌, ◌+◌, ℕ, suc, slice_set, ap, sym, subst, arith}
use Rattle.std.specs.Prelude.{max}
use Rattle.l6_places.specs.Board.{places_in, taken}
use Rattle.l6_places.specs.inner.Settling.{Spreads}
use Rattle.l6_places.specs.inner.View.{board_of}
use Rattle.l6_places.specs.declared.tree.Tree.{Tree}
use Rattle.l6_places.proofs.Changes.{takes}
use Rattle.l6_places.proofs.Settling.{spread_part}
use Rattle.l6_places.proofs.Values.{most}
use Rattle.l6_places.proofs.tree.Tree.take.Goals as goal

pub settle-requires-clause-spreads : goal.settle-requires-clause-spreads
settle-requires-clause-spreads c =
    let b = board_of c.args.self.now in
    let tree = c.args.self.now.nodes.items in
    let node = c.args.node in
    let up : suc c.args.level ≡ c.args.level + 1 = omega arith in
    let settles = takes b tree c.args.level c.args.place node c.requires.told c.requires.level
    c.requires.is_open c.requires.node in
    let spreads = spread_part (taken b c.args.level c.args.place) tree c.args.level node 0 settles
    (most b tree c.requires.told) (omega arith) (λ full. omega (arith, full)) in
    let used = sym (ap (max c.args.self.now.most) c.requires.used) in
    subst (λ (t : Tree). Spreads
    (record (board_of t) { marks = slice_set t.marks.items c.args.place (c.args.level + 1) }) t.nodes.items node 0)
    (sym c.remember.ensures)
    (subst (λ (number : ℕ). Spreads
    (record {
      top = c.args.self.now.top;
      first = c.args.self.now.first;
      end = c.args.self.now.end;
      marks = slice_set c.args.self.now.marks.items c.args.place (c.args.level + 1);
      most = number;
    })
    tree node 0) used
    (subst (λ (mark : ℕ). Spreads
    (record {
      top = c.args.self.now.top;
      first = c.args.self.now.first;
      end = c.args.self.now.end;
      marks = slice_set c.args.self.now.marks.items c.args.place mark;
      most = max c.args.self.now.most
          (places_in (slice_set c.args.self.now.marks.items c.args.place (suc c.args.level)));
    })
    tree node 0) up spreads))
