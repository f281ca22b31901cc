-- The calls of the statement at which the run stands into which an editor may step.
use Rattle.std.specs.Prelude.{ℕ, zero, suc, ◌+◌, ◌-◌, ◌==◌, max, Bool, false, List, [], ◌∷◌, ◌++◌, codes, decimal, drop, map, Option, None, Some, option_and_then, unwrap_or, if◌then◌else◌}
use Rattle.std.specs.List.{list_any}
use Rattle.serde_json.specs.Data.{Data, array, number, unsigned, object, member, no_members}
use Rattle.serde_json.specs.View.{items_of}
use Rattle.l6_group.specs.declared.label.Label.{Label}
use Rattle.l6_prog.specs.declared.operation.Op.{Op}
use Rattle.l6_prog.specs.declared.operation.Op.TheVariants.{Call as Calls}
use Rattle.l6_session.specs.inner.SessionRun.{SessionRun}
use Rattle.l6_steps.specs.State.{RunContext, State, is_last}
use Rattle.l6_steps.specs.Step.{start_of, statement_at}
use Rattle.l6_steps.specs.declared.position.Position.{Position}
use Rattle.l6_dap.specs.Frames.{place_text}
use Rattle.l6_dap.specs.Members.{number_in}
use Rattle.l6_dap.specs.Values.{said}
use Rattle.l6_dap.specs.declared.targets.Target.{Target}

-- a call by the action of this number, if the operation is one
abbrev pub call_of : ℕ → Op ℕ → List Target
call_of action (Calls called fail) = record { action = action; called = called } ∷ []
call_of action other = []

-- the calls of operations, of which the first is the action of this number
abbrev pub calls_of : ℕ → List (Op ℕ) → List Target
calls_of action [] = []
calls_of action (operation ∷ others) = call_of action operation ++ calls_of (action + 1) others

-- the operations from an action on: action 0 is the condition, and 1 the first operation
abbrev pub calls_from : ℕ → List (Op ℕ) → List Target
calls_from action operations = calls_of (max action 1) (drop (action - 1) operations)

-- the calls that are ahead in the statement: none, where the run goes no further
abbrev pub calls_ahead : RunContext → State → List Target
calls_ahead context state =
    if is_last context state then []
    else calls_from state.at.action (statement_at context.program state.at).operations

-- the number of the frame that is asked for. The first one alone has calls ahead: the others wait
abbrev pub frame_in : Option Data → ℕ
frame_in arguments = unwrap_or (option_and_then (number_in (codes "frameId")) arguments) 0

abbrev pub calls_in_frame : ℕ → RunContext → State → List Target
calls_in_frame zero context state = calls_ahead context state
calls_in_frame (suc n) context state = []

-- there is a call ahead by the action of this number
abbrev pub is_ahead : ℕ → RunContext → State → Bool
is_ahead action context state =
    list_any (λ (call : Target). call.action == action) (calls_ahead context state)

-- a call as it is shown: where it leads, and the number of its action, by which it is asked for
abbrev pub target_text : List (Label × ℕ) → Target → List ℕ
target_text labels call =
    place_text labels (start_of call.called) ++ codes ", action " ++ decimal call.action

abbrev pub labelled : ℕ → Data → Data
labelled action label = object
    (member (codes "id") (number (unsigned action)) (member (codes "label") label no_members))

abbrev pub target_value : List (Label × ℕ) → Target → Data
target_value labels call = labelled call.action (said (target_text labels call))

abbrev pub targets_body : List Data → Data
targets_body targets = object (member (codes "targets") (array (items_of targets)) no_members)

-- what is answered
abbrev pub targets_shown : List (Label × ℕ) → List Target → Data
targets_shown labels calls = targets_body (map (target_value labels) calls)
