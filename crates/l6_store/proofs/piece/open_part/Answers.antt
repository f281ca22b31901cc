use Rattle.std.proofs.Common.{ℕ, sym, subst}
use Rattle.l6_store.specs.Blocks.{Blocks}
use Rattle.l6_store.specs.inner.Detached.{IsDetached}
use Rattle.l6_store.proofs.Detached.{detached_beside, detached_unlisted}
use Rattle.l6_store.proofs.piece.open_part.Goals as goal

-- the piece that is left after the halvings
held : (c : goal.After-open-arg-1) → IsDetached c.halve.new.arena.units c.halve.new.arena.blocks
    (record { order = c.halve.new.arena.order; level = c.args.level; place = c.args.place })
held c =
    subst (λ (units : ℕ). IsDetached units c.halve.new.arena.blocks
    (record { order = c.halve.new.arena.order; level = c.args.level; place = c.args.place }))
    (sym c.halve.ensures.units)
    (subst (λ (blocks : Blocks). IsDetached c.args.arena.now.units blocks
    (record { order = c.halve.new.arena.order; level = c.args.level; place = c.args.place }))
    (sym c.halve.ensures.blocks) c.halve.ensures.held)

pub open-requires-clause-is_aligned : goal.open-requires-clause-is_aligned
open-requires-clause-is_aligned c = (held c).holds.is_aligned

pub open-requires-clause-beside : goal.open-requires-clause-beside
open-requires-clause-beside c =
    detached_beside c.halve.new.arena.units c.halve.new.arena.blocks
    (record { order = c.halve.new.arena.order; level = c.args.level; place = c.args.place })
    (held c).holds

pub open-requires-clause-unlisted : goal.open-requires-clause-unlisted
open-requires-clause-unlisted c =
    detached_unlisted c.halve.new.arena.units c.halve.new.arena.blocks
    (record { order = c.halve.new.arena.order; level = c.args.level; place = c.args.place })
    (held c).holds
