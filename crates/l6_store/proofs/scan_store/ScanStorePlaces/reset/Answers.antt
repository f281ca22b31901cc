use Rattle.std.proofs.Common.{◌≡◌, ap, ◌∙◌, replicate}
use Rattle.std.specs.Vec.{vec_len}
use Rattle.l6_store.specs.Scan.{scan_rule}
use Rattle.l6_store.specs.Store.{Store, fresh}
use Rattle.l6_store.specs.declared.tag.Tag.TheVariants.{Free}
use Rattle.l6_store.proofs.Kept.{sound_of}
use Rattle.l6_store.proofs.Calls.{empty_kept, empty_store}
use Rattle.l6_store.proofs.scan_store.ScanStorePlaces.reset.Goals as goal

pub returns-clause-after : goal.returns-clause-after
returns-clause-after c =
    let tags : c.fill.new.self.items ≡ replicate (vec_len c.self.inside.tags) Free
    = c.fill.ensures.items (λ y same. same) in
    empty_store c.self.inside.units (vec_len c.self.inside.tags) c.fill.new.self.items
    c.self.inside.words.items tags
    ∙ ap (λ (s : Store). fresh scan_rule s.units) c.self.view_is

pub returns-clause-sound : goal.returns-clause-sound
returns-clause-sound c =
    let tags : c.fill.new.self.items ≡ replicate (vec_len c.self.inside.tags) Free
    = c.fill.ensures.items (λ y same. same) in
    sound_of c.self.inside.units c.fill.new.self.items c.self.inside.words.items
    (empty_kept c.self.inside.units (vec_len c.self.inside.tags) c.fill.new.self.items
    c.self.inside.words.items
    c.self.invariant.kept.some c.self.invariant.kept.most
    (c.self.inside.tags.ok.0 ∙ c.self.invariant.kept.are_tags.count) tags
    c.self.invariant.kept.count c.self.invariant.kept.are_words)
