-- Runs that are launched, by what was asked for.
use Rattle.std.specs.Prelude.{◌≡◌, ℕ, List, [], codes, string_bytes, Option, Some}
use Rattle.serde_json.specs.Data.{Data}
use Rattle.l6_dap.specs.Beginning.{BeginsWith}
use Rattle.l6_dap.specs.Debugged.{Debugged}
use Rattle.l6_dap.specs.Launching.{flag_in, options_asked}
use Rattle.l6_dap.specs.Requests.{argument_of}
use Rattle.l6_dap.specs.Watches.{watching}
use Rattle.l6_dap.specs.declared.debuggee.Launch.{Launch}
use Rattle.l6_dap.specs.inner.Watching.{with_all}

-- this is what a request asks for
pub record IsAsked (arguments : Option Data) (launch : Launch) : Type 0 where
  pub options : options_asked arguments ≡ Some launch.options
  pub path : argument_of (codes "program") arguments ≡ Some (string_bytes launch.path)
  pub entry : launch.stops_on_entry ≡ flag_in (codes "stopOnEntry") arguments
  pub only : launch.is_run_only ≡ flag_in (codes "noDebug") arguments

-- the same is asked for
pub record IsSameLaunch (one other : Launch) : Type 0 where
  pub options : other.options ≡ one.options
  pub path : string_bytes other.path ≡ string_bytes one.path
  pub entry : other.stops_on_entry ≡ one.stops_on_entry
  pub only : other.is_run_only ≡ one.is_run_only

-- a run that is launched so, of a deck with an input
pub record IsLaunchedOf (launch : Launch) (deck input : List ℕ) (it : Debugged) : Type 0 where
  pub begins : BeginsWith launch.options deck input it.run it.names
  pub options : it.options ≡ launch.options
  pub path : it.path ≡ string_bytes launch.path
  pub entry : it.stops_on_entry ≡ launch.stops_on_entry
  pub only : it.is_run_only ≡ launch.is_run_only
  pub cards : it.on_cards ≡ []
  pub labels : it.on_labels ≡ []
  pub printed : it.printed ≡ 0

abbrev pub IsLaunched : Launch → Debugged → Type 0
IsLaunched launch it = (deck : List ℕ) × ((input : List ℕ) × IsLaunchedOf launch deck input it)

-- a run that watches what another one does, of which the same breakpoints are asked for
abbrev pub with_stops_wanted : Debugged → Debugged → Debugged
with_stops_wanted it other = record it {
  run = watching (with_all other.run.state.stop.watched it.run.state.stop.watched) it.run;
  on_cards = other.on_cards;
  on_labels = other.on_labels;
}
