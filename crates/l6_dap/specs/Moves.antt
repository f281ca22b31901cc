-- Which states requests lead to, by the names that the protocol gives them.
use Rattle.std.specs.Prelude.{ℕ, List, codes, Option, Some, None, if◌then◌else◌}
use Rattle.std.specs.Str.{bytes_eq}
use Rattle.l6_session.specs.declared.command.Move.{Move}
use Rattle.l6_session.specs.declared.command.Move.TheVariants.{Step, Back, StepStatement, Next, NextStatement, ReverseNextStatement, Finish, Continue, ReverseContinue}
use Rattle.l6_dap.specs.declared.moves.Granularity.{Granularity}
use Rattle.l6_dap.specs.declared.moves.Granularity.TheVariants.{Statement, State}

-- how far one step goes: to the next state where the client says `instruction`, and else to where a statement begins
abbrev pub granularity_of : List ℕ → Granularity
granularity_of name = if bytes_eq name (codes "instruction") then State else Statement

-- this move, unless the request has another name
abbrev pub move_or : List ℕ → List ℕ → Move → Option Move → Option Move
move_or command name to other = if bytes_eq command name then Some to else other

-- the moves of one step
abbrev pub near_move_of : List ℕ → Granularity → Option Move
near_move_of command Statement =
    move_or command (codes "next") (NextStatement 1)
    (move_or command (codes "stepIn") (StepStatement 1)
    (move_or command (codes "stepBack") (ReverseNextStatement 1) None))
near_move_of command State =
    move_or command (codes "next") (Next 1)
    (move_or command (codes "stepIn") (Step 1)
    (move_or command (codes "stepBack") (Back 1) None))

-- the move of a request, if it is one
abbrev pub move_of : List ℕ → Granularity → Option Move
move_of command granularity =
    move_or command (codes "continue") (Continue 1)
    (move_or command (codes "reverseContinue") (ReverseContinue 1)
    (move_or command (codes "stepOut") Finish (near_move_of command granularity)))
