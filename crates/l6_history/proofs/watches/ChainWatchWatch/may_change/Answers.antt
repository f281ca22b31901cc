use Rattle.std.proofs.Common.{ℕ, List, Option, ap, sym, ◌∙◌}
use Rattle.l6_history.specs.Stop.{some_differ}
use Rattle.l6_history.specs.inner.Changing.{says}
use Rattle.l6_history.specs.inner.Watches.{ChainWatch}
use Rattle.l6_history.proofs.Kept.{known_kept}
use Rattle.l6_history.proofs.watches.ChainWatchWatch.may_change.Goals as goal

-- no chain is changed by a step of an action that does not
pub returns : goal.returns
returns g c none =
    let watch = c.args.self.now in
    let machine = c.args.machine.now in
    ap (λ (values : List (Option ℕ)). some_differ watch.values values)
    (known_kept g.S.Places.rule machine.context machine.configuration watch.stop.watched watch.table
    c.requires
    (ap (says watch.table) (sym c.at.ensures)
    ∙ ap (λ (w : ChainWatch). says w.table c.at.result) (sym c.self.view_is)
    ∙ sym c.says.ensures ∙ none))
