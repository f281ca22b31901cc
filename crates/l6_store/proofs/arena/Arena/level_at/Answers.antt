use Rattle.std.proofs.Common.{◌≡◌, ℕ, ◌^◌, ◌≤◌, List, length, Option, sym, ap, ◌∙◌, subst}
use Rattle.l6_store.specs.inner.ArenaLayout.{ArenaLayout, place_tag_at, tag_of}
use Rattle.std.specs.Option.{IsSome, IfSome, option_map}
use Rattle.std.specs.FinMap as map
use Rattle.l6_store.specs.Blocks.{IsLive}
use Rattle.l6_store.specs.inner.Tags.{level_of}
use Rattle.l6_word.specs.Numerals.{largest_level}
use Rattle.l6_store.proofs.Tagged.{live_tagged, tagged_live, tagged_size, tagged_small}
use Rattle.l6_store.proofs.arena.Arena.level_at.Goals as goal

determined : (c : goal.After-level)
    → c.level.result ≡ level_of (tag_of (place_tag_at c.self.inside.place_tags c.args.place))
determined c =
    c.level.ensures

pub returns-clause-live : goal.returns-clause-live
returns-clause-live c = (
  λ some. subst (λ (l : ArenaLayout). IsLive l.blocks c.args.place) c.self.view_is
      (tagged_live c.self.inside.place_tags c.self.inside.words c.args.place
      (subst (λ (o : Option ℕ). IsSome o) (determined c) some)),
  λ live. subst (λ (o : Option ℕ). IsSome o) (sym (determined c))
      (live_tagged c.self.inside.place_tags c.self.inside.words c.args.place
      (subst (λ (l : ArenaLayout). IsLive l.blocks c.args.place) (sym c.self.view_is) live)),
)

pub returns-clause-size : goal.returns-clause-size
returns-clause-size c =
    ap (option_map (λ (level : ℕ). 2 ^ level)) (determined c)
    ∙ tagged_size c.self.inside.units c.self.inside.place_tags c.self.inside.words
    c.self.invariant.laid.filled c.self.invariant.laid.are_blocks.is_aligned c.args.place
    ∙ ap (λ (l : ArenaLayout). option_map (λ (block : List ℕ). length block)
    (map.get l.blocks c.args.place)) c.self.view_is

pub returns-clause-level : goal.returns-clause-level
returns-clause-level c =
    subst (λ (o : Option ℕ). IfSome o (λ level. level ≤ largest_level)) (sym (determined c))
    (tagged_small c.self.inside.units c.self.inside.place_tags c.self.invariant.laid.are_blocks.is_aligned
    c.args.place)
