use Rattle.serde_json.specs.View.{view}
use Rattle.l6_dap.proofs.Reading.{takes_value}
use Rattle.l6_dap.proofs.adapter.Adapter.take.Goals as goal

pub returns-in_ok-reply-in-Ok : goal.returns-in_ok-reply-in-Ok
returns-in_ok-reply-in-Ok g c =
    takes_value (view c.in-Ok.message) c.in-Ok.ensures.ok c.in_ok-reply-in-Ok.ensures
