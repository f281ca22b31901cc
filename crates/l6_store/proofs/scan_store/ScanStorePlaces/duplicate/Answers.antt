use Rattle.std.proofs.Common.{◌≡◌, List, ap, sym, ◌∙◌, subst, ℕ}
use Rattle.l6_store.specs.Scan.{scan_rule}
use Rattle.l6_store.specs.Store.{Store, IsSound}
use Rattle.l6_store.specs.inner.Tags.{store_of}
use Rattle.l6_store.specs.declared.tag.Tag.{Tag}
use Rattle.l6_store.proofs.Kept.{sound_of}
use Rattle.l6_store.proofs.scan_store.ScanStorePlaces.duplicate.Goals as goal

pub returns-clause-sound : goal.returns-clause-sound
returns-clause-sound c =
    let tags : c.in_ok-to_vec.field-0.items ≡ c.self.inside.tags.items
    = c.in_ok-to_vec.ensures.items_if_clones_equal (λ x y same. same) ∙ c.deref.ensures.value in
    let words : c.in_ok-to_vec-2.field-0.items ≡ c.self.inside.words.items
    = c.in_ok-to_vec-2.ensures.items_if_clones_equal (λ x y same. same) ∙ c.deref-2.ensures.value in
    let same
    = ap (λ (ts : List Tag). store_of c.self.inside.units ts c.in_ok-to_vec-2.field-0.items) tags
    ∙ ap (λ (ws : List ℕ). store_of c.self.inside.units c.self.inside.tags.items ws) words in
    subst (λ (s : Store). IsSound scan_rule s) (sym same)
    (sound_of c.self.inside.units c.self.inside.tags.items c.self.inside.words.items
    c.self.invariant.kept)
