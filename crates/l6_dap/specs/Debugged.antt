-- A run that is launched, and what its editor asked for and was sent.
use Rattle.std.specs.Prelude.{ℕ, List, Bool}
use Rattle.l6_machine.specs.Options.{OptionValues}
use Rattle.l6_session.specs.Names.{Names}
use Rattle.l6_session.specs.inner.SessionRun.{SessionRun}
use Rattle.l6_dap.specs.declared.debuggee.Breakpoint.{Breakpoint}

-- the session with the run; how statements are named; the path of the deck; the store and the limits; whether one stops at
-- the start, and whether the run goes to its end, past all stops; the breakpoints that were asked for last, by cards and by
-- labels; and how many bytes of the printout were sent
pub record Debugged : Type 0 where
  pub run : SessionRun
  pub names : Names
  pub path : List ℕ
  pub options : OptionValues
  pub stops_on_entry : Bool
  pub is_run_only : Bool
  pub on_cards : List Breakpoint
  pub on_labels : List Breakpoint
  pub printed : ℕ
