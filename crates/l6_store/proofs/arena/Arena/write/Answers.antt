use Rattle.std.proofs.Common.{◌≡◌, ℕ, ◌^◌, ◌<◌, List, set, sym, ap, ◌∙◌, subst, arith}
use Rattle.l6_store.specs.inner.ArenaLayout.{IsArena, ArenaLayout, layout_of, blocks_of}
use Rattle.l6_store.specs.inner.Chains.{order_of}
use Rattle.l6_store.specs.declared.place_tag.PlaceTag.{PlaceTag}
use Rattle.std.specs.FinMap as map
use Rattle.l6_word.specs.Numerals.{word_bits}
use Rattle.l6_store.specs.Blocks.{LiesIn, index_in}
use Rattle.l6_store.proofs.Arenas.{sound}
use Rattle.l6_store.proofs.Changed.{found_within, written_laid, written_blocks, written_order}
use Rattle.l6_store.specs.inner.Units.{IsKeptArena}
use Rattle.l6_store.proofs.KeptArenas.{written_kept}
use Rattle.l6_store.proofs.arena.Arena.write.Goals as goal

found : (c : goal.After-write)
    → LiesIn (blocks_of c.self.inside.place_tags c.self.inside.words) c.args.place
found c = subst (λ (l : ArenaLayout). LiesIn l.blocks c.args.place) (sym c.self.view_is) c.requires

written : (c : goal.After-write)
    → c.write.new.self ≡ set c.self.inside.words c.args.place c.args.word
written c = c.write.ensures
    ∙ ap (set c.self.inside.words c.args.place) c.get.ensures.value

small : (c : goal.After-write) → c.args.word < 2 ^ word_bits
small c = omega (arith, c.get.ensures.value, c.get.ensures.range)

-- what becomes of the blocks, whatever the layout is called
blocks_by : (units : ℕ) (words heads : List ℕ) (place_tags : List PlaceTag) →
    IsArena units words place_tags heads
    → (now : ArenaLayout) → layout_of units words place_tags heads ≡ now → (place value : ℕ)
    → value < 2 ^ word_bits → (found : LiesIn now.blocks place)
    → blocks_of place_tags (set words place value)
    ≡ map.insert now.blocks found.start (set found.words (index_in place found) value)
blocks_by units words heads place_tags were now view place value small =
    subst (λ (l : ArenaLayout). (found : LiesIn l.blocks place)
    → blocks_of place_tags (set words place value)
    ≡ map.insert l.blocks found.start (set found.words (index_in place found) value)) view
    (λ found. written_blocks units words heads place_tags were place found value small)

pub write-requires-clause-index : goal.write-requires-clause-index
write-requires-clause-index c =
    found_within c.self.inside.units c.self.inside.words c.self.inside.heads
    c.self.inside.place_tags c.self.invariant.laid c.args.place
    (subst (λ (l : ArenaLayout). LiesIn l.blocks c.args.place) (sym c.self.view_is) c.requires)

laid : (c : goal.After-write) →
    IsArena c.self.inside.units c.write.new.self c.self.inside.place_tags c.self.inside.heads
laid c =
    subst (λ (words : List ℕ). IsArena c.self.inside.units words c.self.inside.place_tags
    c.self.inside.heads) (sym (written c))
    (written_laid c.self.inside.units c.self.inside.words c.self.inside.heads
    c.self.inside.place_tags c.self.invariant.laid c.args.place (found c) c.args.word (small c))

pub invariant_of-self : goal.invariant_of-self
invariant_of-self c =
    subst (λ (words : List ℕ). IsKeptArena c.self.inside.units words c.self.inside.place_tags
    c.self.inside.heads c.self.inside.used) (sym (written c))
    (written_kept c.self.inside.units c.self.inside.words c.self.inside.heads
    c.self.inside.place_tags c.self.inside.used c.self.invariant c.args.place (found c) c.args.word (small c))

pub returns-clause-blocks : goal.returns-clause-blocks
returns-clause-blocks c = λ there.
    ap (blocks_of c.self.inside.place_tags) (written c)
    ∙ blocks_by c.self.inside.units c.self.inside.words c.self.inside.heads
    c.self.inside.place_tags c.self.invariant.laid c.args.self.now c.self.view_is c.args.place
    c.args.word (small c) there

pub returns-clause-order : goal.returns-clause-order
returns-clause-order c =
    ap (λ (words : List ℕ). order_of words c.self.inside.heads) (written c)
    ∙ written_order c.self.inside.units c.self.inside.words c.self.inside.heads
    c.self.inside.place_tags c.self.invariant.laid c.args.place (found c) c.args.word (small c)
    ∙ ap (λ (l : ArenaLayout). l.order) c.self.view_is

pub returns-clause-sound : goal.returns-clause-sound
returns-clause-sound c =
    sound c.self.inside.units c.write.new.self c.self.inside.heads c.self.inside.place_tags
    (laid c)
