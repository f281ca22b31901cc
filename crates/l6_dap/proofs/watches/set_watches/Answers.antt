use Rattle.std.proofs.Common.{map, ap, ◌∙◌}
use Rattle.serde_json.proofs.Views.{view-Array}
use Rattle.serde_json.specs.View.{view}
use Rattle.l6_dap.specs.Breakpoints.{body_of}
use Rattle.l6_dap.specs.Requests.{entries_of}
use Rattle.l6_dap.specs.inner.Asked.{arguments_of}
use Rattle.l6_dap.proofs.Watching.{sets_watches}
use Rattle.l6_dap.proofs.watches.set_watches.Goals as goal

pub returns : goal.returns
returns c =
    sets_watches _ _ c.unwatch_all.new.session c.watch_entries.new.session (entries_of (arguments_of c.args.request))
    (map view c.list.result.now) (map view c.in_ok-said.said.items) _ c.debuggee.view_is c.unwatch_all.ensures c.list.ensures
    c.in_ok-said.ensures.said c.in_ok-said.ensures.watched
    (c.in_ok-body_of.ensures ∙ ap body_of (view-Array c.in_ok-said.said))
