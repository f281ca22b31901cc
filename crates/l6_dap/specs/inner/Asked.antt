-- What a request asks for, and how it is answered, as both are passed on.
use Rattle.std.specs.Prelude.{ℕ, List, string_bytes, Option, Some, None}
use Rattle.std.specs.Option.{option_map}
use Rattle.serde_json.specs.Data.{Data}
use Rattle.serde_json.specs.View.{view}
use Rattle.l6_session.specs.declared.command.Move.{Move}
use Rattle.l6_dap.specs.Messages.{Outcome}
use Rattle.l6_dap.specs.Messages.Outcome.{done, answered, refused}
use Rattle.l6_dap.specs.Requests.{call_asked, list_of, move_asked}
use Rattle.l6_steps.specs.State.{Memory}
use Rattle.l6_dap.specs.Values.{nodes_after_all}
use Rattle.l6_dap.specs.Variables.{variables_of}
use Rattle.l6_dap.specs.declared.answer.Answer.{Answer}
use Rattle.l6_dap.specs.declared.answer.Answer.TheVariants.{Done, Body, Refused}
use Rattle.l6_dap.specs.declared.nodes.Node.{Node}
use Rattle.l6_dap.specs.declared.request.Request.{Request}

-- what belongs to it
abbrev pub arguments_of : Request → Option Data
arguments_of request = option_map (λ it. view it.now) request.arguments

-- the move that it asks for
abbrev pub move_by : Request → Option Move
move_by request = move_asked request.command.now (arguments_of request)

-- the action of the call that it asks for
abbrev pub call_by : Request → Option ℕ
call_by request = call_asked request.command.now (arguments_of request)

-- the values of an argument that is a list
abbrev pub list_by : Request → List ℕ → List Data
list_by request name = list_of name (arguments_of request)

-- how it is answered
abbrev pub outcome_of : Answer → Outcome
outcome_of Done = done
outcome_of (Body body) = answered (view body)
outcome_of (Refused why) = refused (string_bytes why)

-- how it is answered with a body, or refused for a reason where there is none
abbrev pub outcome_or : List ℕ → Option Data → Outcome
outcome_or why None = refused why
outcome_or why (Some body) = answered body

-- the nodes once the variables of one are answered, if there is one
abbrev pub nodes_of : Memory → Option Node → List Node → List Node
nodes_of memory None nodes = nodes
nodes_of memory (Some node) nodes = nodes_after_all memory (variables_of memory node) nodes
