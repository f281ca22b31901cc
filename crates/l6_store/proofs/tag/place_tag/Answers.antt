use Rattle.std.proofs.Common.{ℕ, subst}
use Rattle.l6_store.specs.inner.PlaceTags.{IsFilled}
use Rattle.l6_store.specs.declared.tag.Tag.TheVariants.{Inside}
use Rattle.l6_store.proofs.Runs.{tagged_of_filled}
use Rattle.l6_store.proofs.tag.place_tag.Goals as goal

pub returns : goal.returns
returns c =
    tagged_of_filled c.args.tags.now c.fill.new.tags c.args.place c.args.level c.requires.within
    (subst (λ (size : ℕ). IsFilled c.args.tags.now c.fill.new.tags c.args.place size Inside)
    c.size_of.ensures c.fill.ensures)
