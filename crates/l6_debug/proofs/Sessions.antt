-- What becomes of a session: it reports no trouble of a reader, and the states that it shows are reached.
use Rattle.std.proofs.Common.{◌≡◌, ◌≤◌, false, inr, length, ℕ, List, Option, Result, Ok, Err, refl}
use Rattle.l6_steps.specs.Numerals.{most_input}
use Rattle.l6_steps.proofs.Tiled.{buddy_by_steps}
use Rattle.l6_machine.specs.Options.{OptionValues, context_under, store_rule}
use Rattle.l6_card.specs.Numerals.{most_deck_bytes}
use Rattle.l6_asm.specs.Assembled.{Assembled}
use Rattle.l6_asm.specs.Spells.{Spells}
use Rattle.l6_device.specs.Numerals.{most_command_bytes}
use Rattle.l6_device.specs.Patience.{reports_read, reported_by}
use Rattle.l6_device.specs.declared.fault.Part.{Part}
use Rattle.l6_device.specs.declared.fault.RunFault.{RunFault}
use Rattle.l6_device.specs.declared.fault.RunFault.TheVariants.{TooLong, Asm, Load, Read, Write, NoMemory}
use Rattle.l6_debug.specs.Serving.{Debugs, GoOut, ServesSession}
use Rattle.l6_debug.specs.Transcript.{answers_to}

pub unreported_debugger_state : {Outcome : Type 0} (options : OptionValues) (deck input commands : List ℕ)
    (part : Part) (old new : Option (List ℕ)) (result : Result Outcome RunFault) →
    ServesSession options deck input commands old new result →
    reported_by (reports_read part) result ≡ false
unreported_debugger_state options deck input commands part old new (Ok _) served = refl
unreported_debugger_state options deck input commands part old new (Err (TooLong _)) served = refl
unreported_debugger_state options deck input commands part old new (Err (Asm _)) served = refl
unreported_debugger_state options deck input commands part old new (Err (Load _)) served = refl
unreported_debugger_state options deck input commands part old new (Err (Read _)) served = absurd served
unreported_debugger_state options deck input commands part old new (Err (Write _)) served = refl
unreported_debugger_state options deck input commands part old new (Err NoMemory) served = refl

-- the deck spells a program, and the answers went out so
module _ {Outcome : Type 0} (options : OptionValues) (deck input commands : List ℕ)
    (assembly : Assembled) (old new : Option (List ℕ)) (fits : length deck ≤ most_deck_bytes)
    (input_fits : length input ≤ most_input) (commands_fit : length commands ≤ most_command_bytes)
    (spelled : Spells deck assembly) where
  debugs : (result : Result Outcome RunFault) →
      GoOut (answers_to store_rule (context_under options input assembly.program) commands) 0 old
      new result →
      Debugs options deck input commands old new result
  debugs result out = record {
    fits = fits;
    input_fits = input_fits;
    commands_fit = commands_fit;
    assembly = assembly;
    spelled = spelled;
    out = out;
    by_steps = buddy_by_steps (context_under options input assembly.program);
  }

  pub session_served : (result : Result Outcome RunFault) →
      GoOut (answers_to store_rule (context_under options input assembly.program) commands) 0 old
      new result →
      ServesSession options deck input commands old new result
  session_served (Ok outcome) out = debugs (Ok outcome) out
  session_served (Err (TooLong part)) out = absurd out
  session_served (Err (Asm fault)) out = absurd out
  session_served (Err (Load fault)) out = absurd out
  session_served (Err (Read part)) out = absurd out
  session_served (Err (Write n)) out = debugs (Err (Write n)) out
  session_served (Err NoMemory) out = inr (debugs (Err NoMemory) out)
