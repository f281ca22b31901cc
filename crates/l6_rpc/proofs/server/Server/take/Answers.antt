use Rattle.serde_json.specs.View.{view}
use Rattle.l6_rpc.proofs.Reading.{takes_value}
use Rattle.l6_rpc.proofs.server.Server.take.Goals as goal

pub returns-in_ok-reply-in-Ok : goal.returns-in_ok-reply-in-Ok
returns-in_ok-reply-in-Ok g c =
    takes_value (view c.in-Ok.value) c.in-Ok.ensures.ok c.in_ok-reply-in-Ok.ensures
