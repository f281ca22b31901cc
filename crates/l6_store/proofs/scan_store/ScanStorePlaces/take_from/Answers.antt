use Rattle.std.proofs.Common.{◌≡◌, List, ap, sym, ◌∙◌, subst, ℕ}
use Rattle.l6_store.specs.Scan.{scan_rule}
use Rattle.l6_store.specs.Store.{Store, IsSound}
use Rattle.l6_store.specs.inner.Tags.{store_of}
use Rattle.l6_store.specs.declared.tag.Tag.{Tag}
use Rattle.l6_store.proofs.Kept.{sound_of}
use Rattle.l6_store.proofs.scan_store.ScanStorePlaces.take_from.Goals as goal

pub returns-clause-sound : goal.returns-clause-sound
returns-clause-sound g c =
    let units : c.self.inside.units ≡ c.other.inside.units =
    ap (λ (s : Store). s.units) c.self.view_is ∙ c.requires
    ∙ sym (ap (λ (s : Store). s.units) c.other.view_is) in
    let tags : c.copy_from_slice.new.self.items ≡ c.other.inside.tags.items =
    c.copy_from_slice.ensures.items ∙ c.deref.ensures.value in
    let words : c.copy_from_slice-2.new.self.items ≡ c.other.inside.words.items =
    c.copy_from_slice-2.ensures.items ∙ c.deref-2.ensures.value in
    let same =
    ap (λ (u : ℕ). store_of u c.copy_from_slice.new.self.items c.copy_from_slice-2.new.self.items)
    units
    ∙ ap (λ (ts : List Tag). store_of c.other.inside.units ts c.copy_from_slice-2.new.self.items)
    tags
    ∙ ap (λ (ws : List ℕ). store_of c.other.inside.units c.other.inside.tags.items ws) words in
    subst (λ (s : Store). IsSound scan_rule s) (sym same)
    (sound_of c.other.inside.units c.other.inside.tags.items c.other.inside.words.items
    c.other.invariant.kept)
