-- What the messages of an editor do to the run that is launched, and how they are answered.
use Rattle.std.specs.Prelude.{◌≡◌, ℕ, List, [], Bool, true, false, codes, Option, Some, None, ◌||◌}
use Rattle.std.specs.Str.{bytes_eq}
use Rattle.serde_json.specs.Data.{Data}
use Rattle.l6_rpc.specs.Rpc.{Reads}
use Rattle.l6_session.specs.declared.command.Move.{Move}
use Rattle.l6_session.specs.inner.SessionRun.{SessionRun}
use Rattle.l6_dap.specs.Breakpoints.{SetsUnless, are_elsewhere}
use Rattle.l6_dap.specs.Debugged.{Debugged}
use Rattle.l6_dap.specs.Entering.{after_move, into}
use Rattle.l6_dap.specs.Launching.{Launches, Relaunches, begun}
use Rattle.l6_dap.specs.Messages.{Outcome, answer}
use Rattle.l6_dap.specs.Messages.Outcome.{answered as is_answered, done as is_done, refused as is_refused}
use Rattle.l6_dap.specs.Paths.{source_in}
use Rattle.l6_dap.specs.Printed.{printed_by, sent, unsent}
use Rattle.l6_dap.specs.Requests.{arguments_in, call_asked, command_in, entries_of, is_passed_over, kind_of, move_asked, seq_in}
use Rattle.l6_dap.specs.Showing.{IsRefused, Shows, state_of}
use Rattle.l6_dap.specs.Targets.{is_ahead}
use Rattle.l6_dap.specs.Watches.{SetsWatches}
use Rattle.l6_dap.specs.declared.breakpoints.Kind.{Kind}
use Rattle.l6_dap.specs.declared.nodes.Node.{Node}

-- a run that is launched, after a move, and after the way into a call
abbrev pub debugged_after : Debugged → Move → Debugged
debugged_after old to = record old { run = after_move old.run to }

abbrev pub debugged_into : Debugged → ℕ → Debugged
debugged_into old action = record old { run = into action old.run }

-- the requests besides moves that may change which run is launched, where it is, or where one stops: all others only
-- look, or are not known
abbrev pub may_change : List ℕ → Bool
may_change command = bytes_eq command (codes "launch") || bytes_eq command (codes "restart")
    || bytes_eq command (codes "configurationDone") || bytes_eq command (codes "setBreakpoints")
    || bytes_eq command (codes "setFunctionBreakpoints") || bytes_eq command (codes "setDataBreakpoints")

-- the run that is launched, if there is one, and the nodes whose variables an editor may ask for
pub record AdapterState : Type 0 where
  pub debugged : Option Debugged
  pub nodes : List Node

-- the run that is launched makes a move, and what it printed is sent; no node is known any more
pub record Makes (to : Move) (old new : AdapterState) (events : List (List ℕ)) : Type 0 where
  pub moves : (it : Debugged) → old.debugged ≡ Some it → new.debugged ≡ Some (sent (debugged_after it to))
  pub prints : (it : Debugged) → old.debugged ≡ Some it → printed_by events ≡ unsent (debugged_after it to)
  pub nodes : new.nodes ≡ []

-- the run that is launched goes into the call ahead by the action of this number, and what it printed is sent; no node is
-- known any more. Where there is no such call, or no run, that is refused, and nothing changes
abbrev pub has_ahead : ℕ → Option Debugged → Bool
has_ahead action None = false
has_ahead action (Some it) = is_ahead action it.run.context (state_of it.run)

pub record Enters (action : ℕ) (old new : AdapterState) (outcome : Outcome) (events : List (List ℕ)) : Type 0 where
  pub enters : has_ahead action old.debugged ≡ true → (it : Debugged) → old.debugged ≡ Some it →
      (new ≡ record { debugged = Some (sent (debugged_into it action)); nodes = [] })
      × (printed_by events ≡ unsent (debugged_into it action))
  pub refuses : has_ahead action old.debugged ≡ false →
      (new ≡ old) × (printed_by events ≡ []) × IsRefused outcome

-- breakpoints are set as is asked for, or chains are watched, and what is said of them is answered
abbrev pub SetsBreakpoints : Kind → Option Data → Debugged → Debugged → Outcome → Type 0
SetsBreakpoints kind arguments old new outcome =
    (said : Data) × (outcome ≡ is_answered said)
    × SetsUnless (are_elsewhere kind old.path (source_in arguments)) kind (entries_of arguments) old new said

abbrev pub SetsChains : List Data → Debugged → Debugged → Outcome → Type 0
SetsChains entries old new outcome =
    (said : Data) × (outcome ≡ is_answered said) × SetsWatches entries old new said

-- what a request that is no move does to a run that is launched
pub record Serves (command : List ℕ) (arguments : Option Data) (old new : Debugged) (before after : List Node) (outcome : Outcome) : Type 0 where
  pub sets : (kind : Kind) → kind_of command ≡ Some kind →
      SetsBreakpoints kind arguments old new outcome
  pub watches : command ≡ codes "setDataBreakpoints" → SetsChains (entries_of arguments) old new outcome
  pub shows : Shows old.names old.run before after command arguments outcome

-- the requests by which a run begins
abbrev pub begins_a_run : List ℕ → Bool
begins_a_run command = bytes_eq command (codes "configurationDone") || bytes_eq command (codes "restart")

-- the requests that launch a run, or launch it again
abbrev pub is_launch : List ℕ → Bool
is_launch command = bytes_eq command (codes "launch") || bytes_eq command (codes "restart")

-- a run is launched, and none before it counts; or that is refused, and nothing changes
abbrev pub Launching : Option Data → AdapterState → AdapterState → Outcome → Type 0
Launching arguments old new is_done =
    (it : Debugged) × (new ≡ record { debugged = Some it; nodes = [] }) × Launches arguments it
Launching arguments old new (is_refused why) = new ≡ old
Launching arguments old new (is_answered said) = ⊥

-- a run begins, and what it printed is sent
abbrev pub Begins : Debugged → AdapterState → List (List ℕ) → Type 0
Begins it new events =
    (new.debugged ≡ Some (sent (begun it))) × (printed_by events ≡ unsent (begun it))

-- the run is launched again, and begins; where none is launched that is refused, and nothing changes
abbrev pub Restarting : Option Debugged → AdapterState → AdapterState → Outcome → List (List ℕ) → Type 0
Restarting None old new outcome events = (new ≡ old) × ((why : List ℕ) × (outcome ≡ is_refused why))
Restarting (Some before) old new outcome events =
    (outcome ≡ is_done) × (new.nodes ≡ []) × ((it : Debugged) × Relaunches before it × Begins it new events)

-- what a request does that is no move
pub record Others (command : List ℕ) (arguments : Option Data) (old new : AdapterState) (outcome : Outcome) (events : List (List ℕ)) : Type 0 where
  pub serves : is_launch command ≡ false → (it : Debugged) → old.debugged ≡ Some it →
      (next : Debugged) × (new.debugged ≡ Some next)
      × Serves command arguments it next old.nodes new.nodes outcome
  pub keeps : may_change command ≡ false → new.debugged ≡ old.debugged
  pub launches : command ≡ codes "launch" → Launching arguments old new outcome
  pub restarts : command ≡ codes "restart" → Restarting old.debugged old new outcome events
  pub begins : command ≡ codes "configurationDone" → (it : Debugged) → old.debugged ≡ Some it →
      Begins it new events
  pub prints : begins_a_run command ≡ false → printed_by events ≡ []

-- what a request does to the run that is launched, how it is answered, and what each of the events that follow says that
-- the run has printed
pub record Does (command : List ℕ) (arguments : Option Data) (old new : AdapterState) (outcome : Outcome) (events : List (List ℕ)) : Type 0 where
  pub enters : (action : ℕ) → call_asked command arguments ≡ Some action → Enters action old new outcome events
  pub moves : call_asked command arguments ≡ None →
      (to : Move) → move_asked command arguments ≡ Some to → Makes to old new events
  pub others : call_asked command arguments ≡ None → move_asked command arguments ≡ None →
      Others command arguments old new outcome events

-- what a message does, and what is sent: one answer to a request, and then events; nothing where the message is passed
-- over
pub record Obeys (old new : AdapterState) (message : Data) (answered : Option Data) (events : List (List ℕ)) : Type 0 where
  pub passed : is_passed_over message ≡ true → (answered ≡ None) × (events ≡ []) × (new ≡ old)
  pub request : is_passed_over message ≡ false →
      (seq : ℕ) × (outcome : Outcome)
      × (answered ≡ Some (answer seq (seq_in message) (command_in message) outcome))
      × Does (command_in message) (arguments_in message) old new outcome events

-- what the body of a message leads to, if it is a text of JSON
abbrev pub Takes : AdapterState → AdapterState → List ℕ → Option Data → List (List ℕ) → Type 0
Takes old new body answered events =
    (message : Data) → Reads body message → Obeys old new message answered events
