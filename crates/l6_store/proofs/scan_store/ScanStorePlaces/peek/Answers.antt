use Rattle.std.proofs.Common.{◌^◌, List, ap, ◌∙◌, subst}
use Rattle.l6_store.specs.Open.{IsAnswer}
use Rattle.l6_store.specs.Scan.{scan_rule}
use Rattle.l6_store.specs.Store.{Store, picked}
use Rattle.l6_store.specs.inner.PlaceTags.{IsLowest}
use Rattle.l6_store.specs.declared.tag.Tag.{Tag}
use Rattle.l6_store.proofs.Kept.{picked_of_lowest, answer_of_lowest}
use Rattle.l6_store.proofs.scan_store.ScanStorePlaces.peek.Goals as goal

pub returns-clause-pick : goal.returns-clause-pick
returns-clause-pick c =
    let lowest : IsLowest c.self.inside.tags.items (2 ^ c.args.level) c.lowest_open.result
    = subst (λ (tags : List Tag). IsLowest tags (2 ^ c.args.level) c.lowest_open.result)
    c.deref.ensures.value c.lowest_open.ensures in
    picked_of_lowest c.self.inside.units c.self.inside.tags.items c.self.inside.words.items
    c.self.invariant.kept c.args.level c.lowest_open.result lowest
    ∙ ap (λ (s : Store). picked scan_rule s c.args.level) c.self.view_is

pub returns-clause-fits : goal.returns-clause-fits
returns-clause-fits c =
    let lowest : IsLowest c.self.inside.tags.items (2 ^ c.args.level) c.lowest_open.result
    = subst (λ (tags : List Tag). IsLowest tags (2 ^ c.args.level) c.lowest_open.result)
    c.deref.ensures.value c.lowest_open.ensures in
    subst (λ (s : Store). IsAnswer s.units s.blocks (2 ^ c.args.level) c.lowest_open.result)
    c.self.view_is
    (answer_of_lowest c.self.inside.units c.self.inside.tags.items c.self.inside.words.items
    c.self.invariant.kept c.args.level c.lowest_open.result
    c.requires lowest)
