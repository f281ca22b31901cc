use Rattle.std.proofs.Common.{◌≡◌, ℕ, List, get_or, sym, ◌∙◌, subst}
use Rattle.l6_store.specs.inner.ArenaLayout.{IsArena, ArenaLayout, layout_of}
use Rattle.l6_store.specs.declared.place_tag.PlaceTag.{PlaceTag}
use Rattle.l6_store.specs.Blocks.{LiesIn, word_at}
use Rattle.l6_store.proofs.Changed.{found_within, found_word}
use Rattle.l6_store.proofs.arena.Arena.read.Goals as goal

-- what is read at a place of a block is its word, whatever its layout is called
read_is : (units : ℕ) (words heads : List ℕ) (place_tags : List PlaceTag) →
    IsArena units words place_tags heads
    → (now : ArenaLayout) → layout_of units words place_tags heads ≡ now → (place : ℕ)
    → (found : LiesIn now.blocks place) → get_or words place 0 ≡ word_at place found
read_is units words heads place_tags were now view place =
    subst (λ (l : ArenaLayout). (found : LiesIn l.blocks place)
    → get_or words place 0 ≡ word_at place found) view
    (λ found. found_word units words heads place_tags were place found)

pub read-requires : goal.read-requires
read-requires c =
    found_within c.self.inside.units c.self.inside.words c.self.inside.heads
    c.self.inside.place_tags c.self.invariant.laid c.args.place
    (subst (λ (l : ArenaLayout). LiesIn l.blocks c.args.place) (sym c.self.view_is) c.requires)

pub returns : goal.returns
returns c = λ found.
    c.from_value.ensures ∙ c.read.ensures.value
    ∙ read_is c.self.inside.units c.self.inside.words c.self.inside.heads
    c.self.inside.place_tags c.self.invariant.laid c.args.self.now c.self.view_is c.args.place found
