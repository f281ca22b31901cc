use Rattle.std.proofs.Common.{◌≡◌, ℕ, ◌^◌, ◌≤◌, List, length, Option, ap, sym, ◌∙◌, subst}
use Rattle.std.specs.Option.{option_map, IfSome, IsSome}
use Rattle.std.specs.FinMap as map
use Rattle.l6_word.specs.Numerals.{largest_level}
use Rattle.l6_store.specs.Blocks.{IsLive}
use Rattle.l6_store.specs.Store.{Store}
use Rattle.l6_store.specs.inner.Tags.{tag_at, level_of}
use Rattle.l6_store.specs.declared.tag.Tag.{Tag}
use Rattle.l6_store.proofs.Calls.{size_known, small_known, known_live, live_level}
use Rattle.l6_store.proofs.scan_store.ScanStorePlaces.live.Goals as goal

determined : (c : goal.After-level_at) →
    c.level_at.result ≡ level_of (tag_at c.self.inside.tags.items c.args.word)
determined c =
    c.level_at.ensures
    ∙ ap (λ (tags : List Tag). level_of (tag_at tags c.get.result)) c.deref.ensures.value
    ∙ ap (λ (place : ℕ). level_of (tag_at c.self.inside.tags.items place)) c.get.ensures.value

pub returns-clause-live : goal.returns-clause-live
returns-clause-live c = (
  λ some. subst (λ (s : Store). IsLive s.blocks c.args.word) c.self.view_is
      (known_live c.self.inside.tags.items c.self.inside.words.items c.args.word
      (subst (λ (answer : Option ℕ). IsSome answer) (determined c) some)),
  λ live. subst (λ (answer : Option ℕ). IsSome answer) (sym (determined c))
      (live_level c.self.inside.tags.items c.self.inside.words.items c.args.word
      (subst (λ (s : Store). IsLive s.blocks c.args.word) (sym c.self.view_is) live)),
)

pub returns-clause-size : goal.returns-clause-size
returns-clause-size c =
    ap (λ (answer : Option ℕ). option_map (λ (level : ℕ). 2 ^ level) answer) (determined c)
    ∙ size_known c.self.inside.units c.self.inside.tags.items c.self.inside.words.items
    c.self.invariant.kept c.args.word
    ∙ ap (λ (s : Store). option_map (λ (block : List ℕ). length block)
    (map.get s.blocks c.args.word)) c.self.view_is

pub returns-clause-level : goal.returns-clause-level
returns-clause-level c =
    subst (λ (answer : Option ℕ). IfSome answer (λ level. level ≤ largest_level)) (sym (determined c))
    (small_known c.self.inside.units c.self.inside.tags.items c.self.invariant.kept.are_tags
    c.args.word)
