-- What is seen of a message of the code.
use Rattle.std.specs.Prelude.{Option, Some, None}
use Rattle.serde_json.specs.View.{view}
use Rattle.l6_rpc.specs.Rpc as rpc
use Rattle.l6_rpc.specs.declared.message.Message.{Message}
use Rattle.l6_rpc.specs.declared.message.Message.TheVariants.{Request, Note, Response, Malformed}

abbrev pub seen : Message → rpc.Message
seen (Request id method) = rpc.request (view id.now) method.now
seen (Note method) = rpc.note method.now
seen Response = rpc.response
seen (Malformed (Some id)) = rpc.malformed (Some (view id.now))
seen (Malformed None) = rpc.malformed None
