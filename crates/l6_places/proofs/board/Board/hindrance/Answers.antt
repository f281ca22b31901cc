use Rattle.std.proofs.Common.{◌≡◌, ℕ, ◌+◌, ◌%◌, ◌^◌, ◌≤◌, ap, sym, ◌∙◌, inl, inr, subst, Option, arith}
use Rattle.std.proofs.lemmas.Nat.{one_shl}
use Rattle.std.proofs.lemmas.Bool.{cases_lt}
use Rattle.l6_places.specs.Board.{Board, IsOpen}
use Rattle.l6_places.specs.inner.Ways.{IsInTheWay}
use Rattle.l6_places.specs.inner.View.{board_of}
use Rattle.l6_places.proofs.InTheWay.{clear_open}
use Rattle.l6_places.proofs.board.Board.hindrance.Goals as goal

pub returns-in-None-clause-legal : goal.returns-in-None-clause-legal
returns-in-None-clause-legal c =
    let b = board_of c.self.inside.tree in
    let level = c.args.level in
    let place = c.args.place in
    let same : c.args.self.now ≡ b = sym c.self.view_is in
    let small : level ≤ b.top = subst (λ (x : Board). level ≤ x.top) same c.requires in
    let size = one_shl level 32 (omega (arith, small, c.self.invariant.1)) in
    let low : b.first ≤ place
    = elim (cases_lt place b.first) as (λ _. b.first ≤ place) [
      | inl less ↦ absurd (cc (c.is_outside.ensures.1 (inl less)))
      | inr more ↦ more
    ] in
    let high : place + 2 ^ level ≤ b.end
    = elim (cases_lt b.end (place + 2 ^ level)) as (λ _. place + 2 ^ level ≤ b.end) [
      | inl less ↦ absurd (cc (c.is_outside.ensures.1 (inr less)))
      | inr more ↦ more
    ] in
    let aligned : place % 2 ^ level ≡ 0
    = ap (λ (n : ℕ). place % n) (sym size) ∙ c.if-place-level-ne0.false in
    subst (λ (x : Board). IsOpen x (2 ^ level) place) (sym same)
    (clear_open b level place aligned low high
    (subst (λ (r : Option ℕ). IsInTheWay b (2 ^ level) place r) c.in-None.is c.in_the_way.ensures))
