use Rattle.std.proofs.Common.{subst}
use Rattle.l6_store.specs.BuddyStore.{BuddyStore}
use Rattle.l6_store.specs.Store.{IsSound}
use Rattle.l6_store.specs.Buddy.{buddy_rule}
use Rattle.l6_store.proofs.Stores.{sound_store}
use Rattle.l6_store.proofs.buddy.Buddy.try_free.Goals as goal

pub returns-in_default-clause-sound : goal.returns-in_default-clause-sound
returns-in_default-clause-sound c =
    subst (λ (b : BuddyStore). IsSound buddy_rule b.store) c.self.view_is
    (sound_store c.self.inside.arena c.self.inside.moves c.self.invariant.0 c.self.invariant.1)
