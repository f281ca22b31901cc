use Rattle.std.proofs.Common.{◌≡◌, ℕ, ◌^◌, inl, inr, sym, subst, arith}
use Rattle.std.proofs.lemmas.Bool.{cases_lt}
use Rattle.l6_places.specs.Board.{IsOpen, piece_start}
use Rattle.l6_places.specs.inner.View.{board_of}
use Rattle.l6_places.proofs.tree.Tree.open_level.Goals as goal

pub returns-else-is_open : goal.returns-else-is_open
returns-else-is_open c = λ level small o.
    elim (cases_lt c.loop-level.level level) as (λ _. ⊥) [
      | inl more ↦ c.loop-level.invariant level more small o
      | inr least ↦
          let same : level ≡ c.loop-level.level = omega (arith, least, arith) in
          let here = subst
          (λ (k : ℕ). IsOpen (board_of c.args.self.now) (2 ^ k) (piece_start k c.args.place)) same o in
          let there = subst
          (λ (at : ℕ). IsOpen (board_of c.args.self.now) (2 ^ c.loop-level.level) at)
          (sym c.piece_start.ensures) here in
          absurd (cc (c.is_open.ensures.1 there, c.if-is_open.false))
    ]
