use Rattle.std.proofs.Common.{ℕ, ◌*◌, ◌<◌, refl, subst}
use Rattle.l6_store.proofs.Runs.{free_run, none_lower, none_below}
use Rattle.l6_store.proofs.tag.lowest_open.Goals as goal

pub loop-number-init : goal.loop-number-init
loop-number-init c =
    none_below c.args.tags.now c.args.low c.args.level c.size_of-size.result c.size_of-size.ensures
    c.requires.full

pub returns-then-are_free : goal.returns-then-are_free
returns-then-are_free c = (
  free_run c.args.tags.now c.args.low c.args.level c.loop-number.number c.size_of-size.result
      c.requires.full.above c.size_of-size.ensures
      c.requires.small c.loop-number.auto.number c.loop-number-test.true
      (c.if-are_free.ensures.0 refl),
  λ lower below.
      c.loop-number.invariant lower
      (subst (λ (size : ℕ). lower < c.loop-number.number * size) c.size_of-size.ensures below),
)

pub loop-number-preserved : goal.loop-number-preserved
loop-number-preserved c =
    none_lower c.args.tags.now c.args.level c.loop-number.number c.size_of-size.result
    c.size_of-size.ensures c.loop-number.invariant
    (λ all. let free = c.if-are_free.ensures.1 all in cc)
