use Rattle.std.proofs.Common.{ℕ, ◌≡◌, ◌-◌, ◌∙◌, sym, ap, subst, arith}
use Rattle.l6_store.specs.Buddy.{DetachedPiece, halved_often}
use Rattle.l6_store.specs.inner.Detached.{IsDetached}
use Rattle.l6_store.proofs.Detached.{detached_beside, detached_unlisted}
use Rattle.l6_store.proofs.Loops.{halved_none}
use Rattle.l6_store.proofs.piece.open_piece.Goals as goal

-- the piece has the level asked for
same : (c : goal.After-open-arg-1) → c.args.from ≡ c.args.level
same c = omega (arith, c.requires.enough, c.if-level-from.false)

held : (c : goal.After-open-arg-1) → IsDetached c.args.arena.now.units c.args.arena.now.blocks
    (record { order = c.args.arena.now.order; level = c.args.level; place = c.args.place })
held c =
    subst (λ (level : ℕ). IsDetached c.args.arena.now.units c.args.arena.now.blocks
    (record { order = c.args.arena.now.order; level = level; place = c.args.place })) (same c)
    c.requires.held

pub open-requires-clause-is_aligned : goal.open-requires-clause-is_aligned
open-requires-clause-is_aligned c = (held c).holds.is_aligned

pub open-requires-clause-beside : goal.open-requires-clause-beside
open-requires-clause-beside c =
    detached_beside c.args.arena.now.units c.args.arena.now.blocks
    (record { order = c.args.arena.now.order; level = c.args.level; place = c.args.place })
    (held c).holds

pub open-requires-clause-unlisted : goal.open-requires-clause-unlisted
open-requires-clause-unlisted c =
    detached_unlisted c.args.arena.now.units c.args.arena.now.blocks
    (record { order = c.args.arena.now.order; level = c.args.level; place = c.args.place })
    (held c).holds

pub returns-clause-order : goal.returns-clause-order
returns-clause-order c =
    let first : DetachedPiece
    = record { order = c.args.arena.now.order; level = c.args.from; place = c.args.place } in
    let none : c.args.from - c.args.level ≡ 0
    = omega (arith, c.requires.enough, c.if-level-from.false) in
    c.open.ensures.order
    ∙ sym (ap (λ (h : DetachedPiece). h.order)
    (ap (λ (times : ℕ). halved_often times first) none ∙ halved_none first))
