use Rattle.std.proofs.Common.{sym, subst}
use Rattle.l6_store.specs.Store.{IsSound}
use Rattle.l6_store.specs.Buddy.{buddy_rule}
use Rattle.l6_store.specs.inner.ArenaLayout.{ArenaLayout}
use Rattle.l6_store.proofs.Stores.{sound_store}
use Rattle.l6_store.proofs.buddy.BuddyPlaces.duplicate.Goals as goal

pub returns-clause-sound : goal.returns-clause-sound
returns-clause-sound c =
    subst (λ (l : ArenaLayout). IsSound buddy_rule (record {
      units = l.units;
      blocks = l.blocks;
      order = l.order;
      moves = c.self.inside.moves;
    })) (sym c.in_ok-duplicate.ensures)
    (sound_store c.self.inside.arena c.self.inside.moves c.self.invariant.0 c.self.invariant.1)
