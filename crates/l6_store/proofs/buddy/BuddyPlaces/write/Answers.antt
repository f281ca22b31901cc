use Rattle.std.proofs.Common.{◌≡◌, ℕ, List, set, refl, sym, subst}
use Rattle.l6_store.specs.BuddyStore.{BuddyStore}
use Rattle.std.specs.FinMap as map
use Rattle.l6_store.specs.Blocks.{LiesIn, index_in}
use Rattle.l6_store.specs.Store.{Store, with_block}
use Rattle.l6_store.specs.Tiles.{Tiles}
use Rattle.std.proofs.lemmas.List.{length-set}
use Rattle.l6_store.specs.inner.ArenaLayout.{ArenaLayout}
use Rattle.l6_store.proofs.Stores.{sound_store, store_is, tiles_along, written_tiles}
use Rattle.l6_store.proofs.buddy.BuddyPlaces.write.Goals as goal

found : (c : goal.After-write) → LiesIn c.self.inside.arena.blocks c.args.place
found c =
    subst (λ (b : BuddyStore). LiesIn b.store.blocks c.args.place) (sym c.self.view_is) c.requires

tiled : (c : goal.After-write)
    → Tiles c.write.new.self.units c.write.new.self.blocks c.write.new.self.order
tiled c =
    let there = found c in
    let words : List ℕ = set there.words (index_in c.args.place there) c.args.word in
    tiles_along c.write.new.self.units c.self.inside.arena.units c.write.new.self.blocks
    (map.insert c.self.inside.arena.blocks there.start words) c.write.new.self.order
    c.self.inside.arena.order c.write.ensures.units (c.write.ensures.blocks there)
    c.write.ensures.order
    (written_tiles c.self.inside.arena.units c.self.inside.arena.blocks c.self.inside.arena.order
    there.start there.words words there.is
    (length-set there.words (index_in c.args.place there) c.args.word) c.self.invariant.1)

-- what becomes of the store, whatever it is called
after_by : (layout : ArenaLayout) (moves : ℕ) (now : BuddyStore)
    → ◌≡◌ {A = BuddyStore} (record {
      store = record {
        units = layout.units;
        blocks = layout.blocks;
        order = layout.order;
        moves = moves;
      };
      words = layout.words;
      heads = layout.heads;
    }) now
    → (new : ArenaLayout) (place word : ℕ) → new.units ≡ layout.units
    → ((found : LiesIn layout.blocks place) → new.blocks
    ≡ map.insert layout.blocks found.start (set found.words (index_in place found) word))
    → new.order ≡ layout.order → (found : LiesIn now.store.blocks place)
    → ◌≡◌ {A = Store}
    (record { units = new.units; blocks = new.blocks; order = new.order; moves = moves })
    (with_block now.store found.start (set found.words (index_in place found) word))
after_by layout moves now view new place word units blocks order =
    subst (λ (b : BuddyStore). (found : LiesIn b.store.blocks place)
    → ◌≡◌ {A = Store}
    (record { units = new.units; blocks = new.blocks; order = new.order; moves = moves })
    (with_block b.store found.start (set found.words (index_in place found) word))) view
    (λ found. store_is new.units layout.units new.blocks
    (map.insert layout.blocks found.start (set found.words (index_in place found) word)) new.order
    layout.order moves moves units (blocks found) order refl)

pub invariant_of-self : goal.invariant_of-self
invariant_of-self c = (c.write.ensures.sound, tiled c, c.self.invariant.2)

pub returns-clause-after : goal.returns-clause-after
returns-clause-after c =
    after_by c.self.inside.arena c.self.inside.moves c.args.self.now c.self.view_is
    c.write.new.self c.args.place c.args.word c.write.ensures.units c.write.ensures.blocks
    c.write.ensures.order

pub returns-clause-sound : goal.returns-clause-sound
returns-clause-sound c =
    sound_store c.write.new.self c.self.inside.moves c.write.ensures.sound (tiled c)
