-- What the messages of an editor ask for.
use Rattle.std.specs.Prelude.{ℕ, List, [], ◌∷◌, Bool, false, codes, Option, Some, None, unwrap_or, option_and_then, ◌||◌, if◌then◌else◌}
use Rattle.std.specs.Option.{option_or}
use Rattle.std.specs.Str.{bytes_eq}
use Rattle.serde_json.specs.Data.{Data, Items, no_items, item}
use Rattle.serde_json.specs.Find.{get, as_array}
use Rattle.l6_session.specs.declared.command.Move.{Move}
use Rattle.l6_dap.specs.Expressions.{move_of_text}
use Rattle.l6_dap.specs.Members.{number_in, text_in}
use Rattle.l6_dap.specs.Moves.{granularity_of, move_of}
use Rattle.l6_dap.specs.declared.breakpoints.Kind.{Kind}
use Rattle.l6_dap.specs.declared.breakpoints.Kind.TheVariants.{OnCards, OnLabels}

-- the number of a message
abbrev pub seq_in : Data → ℕ
seq_in message = unwrap_or (number_in (codes "seq") message) 0

-- the name of what a message asks for
abbrev pub command_in : Data → List ℕ
command_in message = unwrap_or (text_in (codes "command") message) []

-- whether a message is an answer or an event of the client, which is passed over
abbrev pub is_passed_over_kind : Option (List ℕ) → Bool
is_passed_over_kind None = false
is_passed_over_kind (Some kind) = bytes_eq kind (codes "response") || bytes_eq kind (codes "event")

abbrev pub is_passed_over : Data → Bool
is_passed_over message = is_passed_over_kind (text_in (codes "type") message)

-- what belongs to a message
abbrev pub arguments_in : Data → Option Data
arguments_in message = get (codes "arguments") message

-- the text of an argument, and the values of one that is a list
abbrev pub argument_of : List ℕ → Option Data → Option (List ℕ)
argument_of name arguments = option_and_then (text_in name) arguments

abbrev pub listed : Items → List Data
listed no_items = []
listed (item value values) = value ∷ listed values

abbrev pub listed_of : Option Items → List Data
listed_of None = []
listed_of (Some items) = listed items

abbrev pub list_of : List ℕ → Option Data → List Data
list_of name arguments = listed_of (option_and_then as_array (option_and_then (get name) arguments))

-- the entries of a request that sets breakpoints, and of which kind they are
abbrev pub entries_of : Option Data → List Data
entries_of arguments = list_of (codes "breakpoints") arguments

abbrev pub kind_of : List ℕ → Option Kind
kind_of command =
    if bytes_eq command (codes "setBreakpoints") then Some OnCards
    else (if bytes_eq command (codes "setFunctionBreakpoints") then Some OnLabels else None)

-- the action of the call into which a request asks to step, if it names one
abbrev pub call_asked : List ℕ → Option Data → Option ℕ
call_asked command arguments =
    if bytes_eq command (codes "stepIn") then option_and_then (number_in (codes "targetId")) arguments else None

-- the move that a request asks for, by its name, or by an expression that is to be evaluated
abbrev pub move_evaluated : List ℕ → Option Data → Option Move
move_evaluated command arguments =
    if bytes_eq command (codes "evaluate")
    then move_of_text (unwrap_or (argument_of (codes "expression") arguments) []) else None

abbrev pub move_asked : List ℕ → Option Data → Option Move
move_asked command arguments =
    option_or (move_of command (granularity_of (unwrap_or (argument_of (codes "granularity") arguments) [])))
    (move_evaluated command arguments)
