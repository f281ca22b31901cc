use Rattle.std.proofs.Common.{sym, subst}
use Rattle.l6_store.specs.Store.{IsSound}
use Rattle.l6_store.specs.Buddy.{buddy_rule}
use Rattle.l6_store.specs.inner.ArenaLayout.{ArenaLayout}
use Rattle.l6_store.proofs.Stores.{sound_store}
use Rattle.l6_store.proofs.buddy.BuddyPlaces.take_from.Goals as goal

pub returns-clause-sound : goal.returns-clause-sound
returns-clause-sound g c =
    subst (λ (l : ArenaLayout). IsSound buddy_rule (record {
      units = l.units;
      blocks = l.blocks;
      order = l.order;
      moves = c.other.inside.moves;
    })) (sym c.take_from.ensures)
    (sound_store c.other.inside.arena c.other.inside.moves c.other.invariant.0 c.other.invariant.1)
