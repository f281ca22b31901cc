-- What a run has printed, and what of it an editor is sent.
use Rattle.std.specs.Prelude.{ℕ, List, [], Bool, false, codes, length, drop, max, Option, Some, None, unwrap_or, flat_map, if◌then◌else◌}
use Rattle.std.specs.Str.{bytes_eq}
use Rattle.std.specs.Str.Lossy.{utf8_lossy}
use Rattle.serde_json.specs.Data.{Data}
use Rattle.serde_json.specs.Find.{get}
use Rattle.l6_machine.specs.Options.{store_rule}
use Rattle.l6_steps.specs.Configuration.{state_at}
use Rattle.l6_session.specs.inner.SessionRun.{SessionRun}
use Rattle.l6_dap.specs.Debugged.{Debugged}
use Rattle.l6_dap.specs.Members.{text_in}

-- the printout of the state at which a session is
abbrev pub output_of : SessionRun → List ℕ
output_of run = (state_at store_rule run.context run.state.number).memory.output

-- what of it was not sent yet, as a text
abbrev pub unsent : Debugged → List ℕ
unsent it = utf8_lossy (drop it.printed (output_of it.run))

-- the run once that is sent
abbrev pub sent : Debugged → Debugged
sent it = record it { printed = max it.printed (length (output_of it.run)) }

-- a text is this one
abbrev pub is_text : List ℕ → Option (List ℕ) → Bool
is_text wanted None = false
is_text wanted (Some text) = bytes_eq text wanted

-- what the body of an `output` event says that the run has printed
abbrev pub printed_by_body : Option Data → List ℕ
printed_by_body None = []
printed_by_body (Some body) =
    if is_text (codes "stdout") (text_in (codes "category") body)
    then unwrap_or (text_in (codes "output") body) [] else []

-- what an event of a name and a body says that the run has printed
abbrev pub told : List ℕ → Option Data → List ℕ
told name body = if bytes_eq name (codes "output") then printed_by_body body else []

abbrev pub printed_by_event : Data → List ℕ
printed_by_event event = told (unwrap_or (text_in (codes "event") event) []) (get (codes "body") event)

-- what some events say, of each of which this is known, one after another
abbrev pub printed_by : List (List ℕ) → List ℕ
printed_by events = flat_map (λ text. text) events
