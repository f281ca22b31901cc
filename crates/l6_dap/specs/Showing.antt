-- What is answered where an editor asks for variables or for what an expression reads as.
use Rattle.std.specs.Prelude.{◌≡◌, ℕ, List, [], ◌++◌, codes, length, Option, Some, None, unwrap_or, option_and_then}
use Rattle.serde_json.specs.Data.{Data}
use Rattle.l6_machine.specs.Options.{store_rule}
use Rattle.l6_session.specs.Names.{Names}
use Rattle.l6_session.specs.inner.SessionRun.{SessionRun}
use Rattle.l6_steps.specs.Configuration.{state_at}
use Rattle.l6_steps.specs.State.{Memory, State}
use Rattle.l6_dap.specs.Expressions.{nodes_evaluated, word_of}
use Rattle.l6_dap.specs.Frames.{IsStack}
use Rattle.l6_dap.specs.Members.{number_in}
use Rattle.l6_dap.specs.Messages.{Outcome}
use Rattle.l6_dap.specs.Messages.Outcome.{answered as is_answered, refused}
use Rattle.l6_dap.specs.Requests.{argument_of}
use Rattle.l6_dap.specs.Scopes.{groups_of, nodes_in, scopes_body, scopes_from}
use Rattle.l6_dap.specs.Targets.{calls_in_frame, frame_in, targets_shown}
use Rattle.l6_dap.specs.Trimmed.{trimmed}
use Rattle.l6_dap.specs.Values.{answered, evaluated, node_of, nodes_after_all}
use Rattle.l6_dap.specs.Variables.{variables_of}
use Rattle.l6_dap.specs.declared.nodes.Node.{Node}

-- the state at which a session is, its memory, and how many units its store has
abbrev pub state_of : SessionRun → State
state_of run = state_at store_rule run.context run.state.number

abbrev pub memory_of : SessionRun → Memory
memory_of run = (state_of run).memory

abbrev pub units_of : SessionRun → ℕ
units_of run = run.context.parameters.units

-- a request is refused, for some reason
abbrev pub IsRefused : Outcome → Type 0
IsRefused outcome = (why : List ℕ) × (outcome ≡ refused why)

-- the variables of a node are answered, as the state has them; where there is no such node, it is refused
abbrev pub ShowsNode : SessionRun → List Node → List Node → Option Node → Outcome → Type 0
ShowsNode run before after None outcome = IsRefused outcome × (after ≡ before)
ShowsNode run before after (Some node) outcome =
    (outcome ≡ is_answered (answered (units_of run) (memory_of run) before (variables_of (memory_of run) node)))
    × (after ≡ nodes_after_all (memory_of run) (variables_of (memory_of run) node) before)

-- the word that an expression reads as is answered; where it reads as none, it is refused
abbrev pub ShowsWord : SessionRun → List Node → Option ℕ → Outcome → Type 0
ShowsWord run after None outcome = IsRefused outcome
ShowsWord run after (Some content) outcome =
    outcome ≡ is_answered (evaluated (units_of run) (memory_of run) after content)

-- the number of the node that is asked for, and the expression
abbrev pub reference_in : Option Data → ℕ
reference_in arguments =
    unwrap_or (option_and_then (number_in (codes "variablesReference")) arguments) 0

abbrev pub expression_in : Option Data → List ℕ
expression_in arguments = trimmed (unwrap_or (argument_of (codes "expression") arguments) [])

-- what a request shows of a run
pub record Shows (names : Names) (run : SessionRun) (before after : List Node) (command : List ℕ) (arguments : Option Data) (outcome : Outcome) : Type 0 where
  pub variables : command ≡ codes "variables" →
      ShowsNode run before after (node_of before (reference_in arguments)) outcome
  pub evaluated : command ≡ codes "evaluate" →
      ShowsWord run after (word_of (memory_of run) (expression_in arguments)) outcome
      × (after ≡ nodes_evaluated (memory_of run) (expression_in arguments) before)
  pub scopes : command ≡ codes "scopes" →
      (outcome ≡ is_answered (scopes_body (scopes_from (length before) (groups_of (memory_of run)))))
      × (after ≡ before ++ nodes_in (groups_of (memory_of run)))
  pub stack : command ≡ codes "stackTrace" → (body : Data) × (outcome ≡ is_answered body)
      × IsStack names.labels (state_of run) arguments body
  pub targets : command ≡ codes "stepInTargets" → outcome ≡ is_answered (targets_shown names.labels
      (calls_in_frame (frame_in arguments) run.context (state_of run)))
