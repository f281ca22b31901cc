use Rattle.std.proofs.Common.{get_or, None, Some, ap, ◌∙◌, arith}
use Rattle.l6_store.specs.inner.ArenaLayout.{ArenaLayout}
use Rattle.l6_store.proofs.Heads.{head_none, head_some}
use Rattle.l6_store.proofs.Loops.{found_first}
use Rattle.l6_store.proofs.arena.Arena.least_level.Goals as goal

pub returns-then-self-found-ne0 : goal.returns-then-self-found-ne0
returns-then-self-found-ne0 c =
    found_first c.args.self.now.order c.args.level (Some c.loop-found.found) (
      omega (arith, c.from-found.ensures, c.loop-found.auto.found),
      omega arith,
      head_some c.self.inside.units c.self.inside.words c.self.inside.heads
          c.self.inside.place_tags c.self.invariant.laid c.args.self.now c.self.view_is
          c.loop-found.found (λ none. c.if-self-found-ne0.true none),
      λ k from before.
          head_none c.self.inside.units c.self.inside.words c.self.inside.heads
          c.self.inside.place_tags c.self.invariant.laid c.args.self.now c.self.view_is k
          (ap (λ (l : ArenaLayout). get_or l.heads k 0) c.self.view_is
          ∙ c.loop-found.invariant k from before),
    )

pub returns : goal.returns
returns c =
    found_first c.args.self.now.order c.args.level None
    (λ k from within.
    head_none c.self.inside.units c.self.inside.words c.self.inside.heads
    c.self.inside.place_tags c.self.invariant.laid c.args.self.now c.self.view_is k
    (ap (λ (l : ArenaLayout). get_or l.heads k 0) c.self.view_is
    ∙ c.loop-found.invariant k from (omega (arith, within, c.loop-found-test.false))))
