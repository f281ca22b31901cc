use Rattle.std.proofs.Common.{◌≤◌, subst, sym, arith}
use Rattle.l6_history.specs.History.{History}
use Rattle.l6_history.proofs.Rings.{greatest_within}
use Rattle.l6_history.proofs.history.History.to.Goals as goal
use Rattle.l6_history.proofs.history.History.to.Goals.{then-number, else-number}

-- the state from which one goes on is not after the goal
pub forward-requires : goal.forward-requires
forward-requires g c = elim c.if-number.branch [
  | then-number w ↦
      (let within = greatest_within c.args.number c.args.self.now.kept in
      subst (λ (h : History). h.number ≤ c.args.number) (sym w.self-is)
      (omega (arith, within, w.go_back.ensures.number)))
  | else-number w ↦
      subst (λ (h : History). h.number ≤ c.args.number) (sym w.self-is)
      (omega (arith, w.if-number.false, c.number.ensures.value))
]
