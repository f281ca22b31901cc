-- What an editor asks for when it launches a run, and how the run begins.
use Rattle.std.specs.Prelude.{◌≡◌, ◌⊎◌, ℕ, List, [], Bool, false, ◌||◌, codes, Option, Some, None, unwrap_or, option_and_then, if◌then◌else◌}
use Rattle.serde_json.specs.Data.{Data}
use Rattle.serde_json.specs.Find.{get, as_bool, as_number, as_u64}
use Rattle.l6_history.specs.Stop.{breaks_at}
use Rattle.l6_machine.specs.Numerals.{default_units, default_steps, default_output}
use Rattle.l6_machine.specs.Options.{OptionValues, option_values, store_rule}
use Rattle.l6_session.specs.SessionState.{moved}
use Rattle.l6_session.specs.declared.command.Move.{Move}
use Rattle.l6_session.specs.declared.command.Move.TheVariants.{End, Goto, Run}
use Rattle.l6_session.specs.inner.SessionRun.{SessionRun}
use Rattle.l6_steps.specs.Configuration.{state_at}
use Rattle.l6_dap.specs.Beginning.{BeginsWith}
use Rattle.l6_dap.specs.Breakpoints.{StopsAsAsked}
use Rattle.l6_dap.specs.Debugged.{Debugged}
use Rattle.l6_dap.specs.Requests.{argument_of}
use Rattle.l6_dap.specs.Watches.{watching}

-- a flag of a request is given
abbrev pub flag_in : List ℕ → Option Data → Bool
flag_in name arguments =
    unwrap_or (option_and_then as_bool (option_and_then (get name) arguments)) false

-- the number of an argument, or this one where there is no such argument; nothing where it is no number
abbrev pub number_of : Option Data → Option ℕ
number_of None = None
number_of (Some value) = option_and_then as_u64 (as_number value)

abbrev pub number_or : ℕ → Option Data → Option ℕ
number_or standard None = Some standard
number_or standard (Some value) = number_of (Some value)

abbrev pub values_of : Option ℕ → Option ℕ → Option ℕ → Option OptionValues
values_of (Some units) (Some steps) (Some output) = Some (option_values units steps output)
values_of units steps output = None

-- the store and the limits that a request asks for
abbrev pub options_asked : Option Data → Option OptionValues
options_asked arguments = values_of
    (number_or default_units (option_and_then (get (codes "store")) arguments))
    (number_or default_steps (option_and_then (get (codes "steps")) arguments))
    (number_or default_output (option_and_then (get (codes "output")) arguments))

-- a run that a request launches: of the program that some deck spells, with some input, at its start, under the options
-- that are asked for; no breakpoint is asked for yet, and nothing was sent
pub record Launches (arguments : Option Data) (it : Debugged) : Type 0 where
  pub deck : List ℕ
  pub input : List ℕ
  pub begins : BeginsWith it.options deck input it.run it.names
  pub options : options_asked arguments ≡ Some it.options
  pub path : argument_of (codes "program") arguments ≡ Some it.path
  pub entry : it.stops_on_entry ≡ flag_in (codes "stopOnEntry") arguments
  pub only : it.is_run_only ≡ flag_in (codes "noDebug") arguments
  pub cards : it.on_cards ≡ []
  pub labels : it.on_labels ≡ []
  pub printed : it.printed ≡ 0

-- one stops where a run stands: a statement begins there that has a breakpoint, and its test is met if it has one
abbrev pub stops_here : SessionRun → Bool
stops_here run = breaks_at run.state.stop (state_at store_rule run.context run.state.number)

-- the move by which a run begins, once all is configured: to its end, past all stops, if that was asked for; none, if one
-- stops at the start or where it stands; and else on from the start to where one stops
abbrev pub first_move : Debugged → Option Move
first_move it =
    if it.is_run_only then Some End
    else (if it.stops_on_entry || stops_here it.run then None else Some Run)

-- the run after a move, if there is one
abbrev pub moved_by : Option Move → Debugged → Debugged
moved_by None it = it
moved_by (Some to) it = record it {
  run = record {
    context = it.run.context;
    state = moved store_rule it.run.context it.run.state to;
  };
}

abbrev pub begun : Debugged → Debugged
begun it = moved_by (first_move it) it

-- a run that is launched again of what its files are now: at its start, with the breakpoints that were asked for and with all
-- that was watched, and nothing was sent
pub record LaunchesAgain (old it : Debugged) : Type 0 where
  pub deck : List ℕ
  pub input : List ℕ
  pub fresh : Debugged
  pub begins : BeginsWith old.options deck input fresh.run fresh.names
  pub same : fresh ≡ record old { run = fresh.run; names = fresh.names; printed = 0 }
  pub stops : StopsAsAsked (record fresh { run = watching old.run.state.stop.watched fresh.run }) it

-- the same run at its start, where nothing was sent
abbrev pub at_start : Debugged → Debugged
at_start it = record (moved_by (Some (Goto 0)) it) { printed = 0 }

-- a run is launched again, or, where its files have no deck without errors now, the same run is at its start
abbrev pub Relaunches : Debugged → Debugged → Type 0
Relaunches old it = LaunchesAgain old it ⊎ (it ≡ at_start old)
