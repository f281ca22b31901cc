use Rattle.l6_store.specs.inner.ArenaLayout.{Listing}
use Rattle.l6_store.proofs.arena.Arena.list_units.Given as goal

-- the units after this one are listed
abbrev pub invariant-loop-unit : goal.invariant-loop-unit
invariant-loop-unit l = Listing l.fn.self l.self l.unit
