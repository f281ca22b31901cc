use Rattle.std.proofs.Common.{◌≡◌, ℕ, subst}
use Rattle.l6_store.specs.BuddyStore.{BuddyStore}
use Rattle.l6_store.specs.Blocks.{LiesIn, word_at}
use Rattle.l6_store.specs.inner.ArenaLayout.{ArenaLayout}
use Rattle.l6_store.proofs.buddy.BuddyPlaces.read.Goals as goal

-- a word read of the arena's blocks is one of the store's
read_along : (layout : ArenaLayout) (moves : ℕ) (now : BuddyStore)
    → ◌≡◌ {A = BuddyStore} (record {
      store = record {
        units = layout.units;
        blocks = layout.blocks;
        order = layout.order;
        moves = moves;
      };
      words = layout.words;
      heads = layout.heads;
    }) now
    → (place word : ℕ) → ((found : LiesIn layout.blocks place) → word ≡ word_at place found)
    → (found : LiesIn now.store.blocks place) → word ≡ word_at place found
read_along layout moves now view place word each =
    subst (λ (b : BuddyStore). (found : LiesIn b.store.blocks place) → word ≡ word_at place found)
    view each

pub returns : goal.returns
returns c =
    read_along c.self.inside.arena c.self.inside.moves c.args.self.now c.self.view_is c.args.place
    c.read.result c.read.ensures
