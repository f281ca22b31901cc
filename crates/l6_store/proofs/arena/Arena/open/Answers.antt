use Rattle.std.proofs.Common.{◌≡◌, ℕ, Bool, true, ◌/◌, ◌+◌, ◌^◌, ◌<◌, ◌≤◌, List, length, set, replicate, sym, ap, ◌∙◌, subst, arith}
use Rattle.l6_store.specs.inner.ArenaLayout.{IsArena, ArenaLayout, blocks_of}
use Rattle.l6_store.specs.inner.Chains.{order_of}
use Rattle.l6_store.specs.declared.place_tag.PlaceTag.{PlaceTag}
use Rattle.l6_store.specs.declared.place_tag.PlaceTag.TheVariants.{Block}
use Rattle.l6_raw.specs.Words.{overwritten}
use Rattle.std.specs.FinMap as map
use Rattle.l6_store.specs.Blocks.{LiesIn, IsAlignedPlace}
use Rattle.l6_store.specs.Buddy.{IsListed}
use Rattle.l6_store.proofs.Arenas.{sound}
use Rattle.l6_store.proofs.Opened.{opened_laid, opened_blocks, opened_order}
use Rattle.std.proofs.lemmas.Nat.{pow_pos}
use Rattle.l6_store.specs.inner.Units.{IsKeptArena}
use Rattle.l6_store.proofs.KeptArenas.{opened_kept, used_before, used_here}
use Rattle.l6_store.proofs.arena.Arena.open.Goals as goal

cleared : (c : goal.After-fill) → c.fill.new.self
    ≡ overwritten c.self.inside.words c.args.place (replicate (2 ^ c.args.level) 0)
cleared c =
    c.fill.ensures
    ∙ ap (λ (size : ℕ). overwritten c.self.inside.words c.args.place (replicate size 0))
    c.size_of.ensures

is_aligned : (c : goal.After-fill) → IsAlignedPlace c.self.inside.units c.args.level c.args.place
is_aligned c =
    subst (λ (l : ArenaLayout). IsAlignedPlace l.units c.args.level c.args.place) (sym c.self.view_is)
    c.requires.is_aligned

beside : (c : goal.After-fill) → (at : ℕ) → c.args.place ≤ at
    → at < c.args.place + 2 ^ c.args.level
    → LiesIn (blocks_of c.self.inside.place_tags c.self.inside.words) at → ⊥
beside c at from before lies =
    c.requires.beside at from before
    (subst (λ (l : ArenaLayout). LiesIn l.blocks at) c.self.view_is lies)

unlisted : (c : goal.After-fill) → (k at : ℕ) → c.args.place ≤ at
    → at < c.args.place + 2 ^ c.args.level
    → IsListed (order_of c.self.inside.words c.self.inside.heads) k at → ⊥
unlisted c k at from before is =
    c.requires.unlisted k at from before
    (subst (λ (l : ArenaLayout). IsListed l.order k at) c.self.view_is is)

unit_within : (c : goal.After-fill) → c.args.place / 1024 < length c.self.inside.used
unit_within c =
    omega (
      arith,
      (is_aligned c).within,
      c.self.invariant.laid.most,
      c.self.told.1,
      pow_pos c.args.level,
    )

laid : (c : goal.After-fill) →
    IsArena c.self.inside.units c.fill.new.self c.open.new.self c.self.inside.heads
laid c =
    subst (λ (ms : List PlaceTag). IsArena c.self.inside.units c.fill.new.self ms c.self.inside.heads)
    (sym c.open.ensures)
    (subst (λ (words : List ℕ). IsArena c.self.inside.units words
    (set c.self.inside.place_tags c.args.place (Block c.args.level)) c.self.inside.heads)
    (sym (cleared c))
    (opened_laid c.self.inside.units c.self.inside.words c.self.inside.heads
    c.self.inside.place_tags c.self.invariant.laid c.args.level c.args.place (is_aligned c) (beside c)
    (unlisted c)))

pub invariant_of-self : goal.invariant_of-self
invariant_of-self c =
    let used : List Bool = set c.self.inside.used (c.args.place / 1024) true in
    subst (λ (ms : List PlaceTag). IsKeptArena c.self.inside.units c.fill.new.self ms
    c.self.inside.heads used) (sym c.open.ensures)
    (subst (λ (words : List ℕ). IsKeptArena c.self.inside.units words
    (set c.self.inside.place_tags c.args.place (Block c.args.level)) c.self.inside.heads used)
    (sym (cleared c))
    (opened_kept c.self.inside.units c.self.inside.words c.self.inside.heads
    c.self.inside.place_tags c.self.inside.used c.self.invariant c.args.level c.args.place used (is_aligned c)
    (used_before c.self.inside.used (c.args.place / 1024) (unit_within c))
    (used_here c.self.inside.used (c.args.place / 1024) (unit_within c))
    (opened_laid c.self.inside.units c.self.inside.words c.self.inside.heads
    c.self.inside.place_tags c.self.invariant.laid c.args.level c.args.place (is_aligned c) (beside c)
    (unlisted c))))

pub returns-clause-blocks : goal.returns-clause-blocks
returns-clause-blocks c =
    ap (λ (ms : List PlaceTag). blocks_of ms c.fill.new.self) c.open.ensures
    ∙ ap (blocks_of (set c.self.inside.place_tags c.args.place (Block c.args.level))) (cleared c)
    ∙ opened_blocks c.self.inside.units c.self.inside.words c.self.inside.heads
    c.self.inside.place_tags c.self.invariant.laid c.args.level c.args.place (is_aligned c) (beside c)
    (unlisted c)
    ∙ ap (λ (l : ArenaLayout). map.insert l.blocks c.args.place (replicate (2 ^ c.args.level) 0))
    c.self.view_is

pub returns-clause-order : goal.returns-clause-order
returns-clause-order c =
    ap (λ (words : List ℕ). order_of words c.self.inside.heads) (cleared c)
    ∙ opened_order c.self.inside.units c.self.inside.words c.self.inside.heads
    c.self.inside.place_tags c.self.invariant.laid c.args.level c.args.place (is_aligned c) (beside c)
    (unlisted c)
    ∙ ap (λ (l : ArenaLayout). l.order) c.self.view_is

pub returns-clause-sound : goal.returns-clause-sound
returns-clause-sound c =
    sound c.self.inside.units c.fill.new.self c.self.inside.heads
    c.open.new.self (laid c)
