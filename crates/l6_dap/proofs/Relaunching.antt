-- A run that is launched and takes over the stops of another one is that one, launched again.
use Rattle.std.proofs.Common.{◌≡◌, ◌≤◌, ℕ, Bool, List, [], length, ap, ◌∙◌, subst}
use Rattle.std.specs.Prelude.{string_bytes}
use Rattle.l6_history.specs.Numerals.{most_watched}
use Rattle.l6_history.specs.declared.watched.Watched.{Watched}
use Rattle.l6_machine.specs.Options.{OptionValues}
use Rattle.l6_dap.specs.Beginning.{BeginsWith}
use Rattle.l6_dap.specs.Breakpoints.{StopsAsAsked}
use Rattle.l6_dap.specs.Debugged.{Debugged}
use Rattle.l6_dap.specs.Launching.{LaunchesAgain}
use Rattle.l6_dap.specs.Watches.{watching}
use Rattle.l6_dap.specs.declared.debuggee.Launch.{Launch}
use Rattle.l6_dap.specs.inner.Launched.{IsLaunched, with_stops_wanted}
use Rattle.l6_dap.specs.inner.Watching.{with_all}
use Rattle.l6_dap.proofs.Watching.{all_watched_again}

-- a run that is launched so, with the breakpoints of one that was
same_wanted : (before next : Debugged) → next.path ≡ before.path → next.options ≡ before.options →
    next.stops_on_entry ≡ before.stops_on_entry → next.is_run_only ≡ before.is_run_only → next.printed ≡ 0 →
    record next { on_cards = before.on_cards; on_labels = before.on_labels }
    ≡ record before { run = next.run; names = next.names; printed = 0 }
same_wanted before next path options entry only printed =
    let it = record before { run = next.run; names = next.names } in
    ap (λ (p : List ℕ). record it {
      path = p;
      options = next.options;
      stops_on_entry = next.stops_on_entry;
      is_run_only = next.is_run_only;
      printed = next.printed;
    }) path
    ∙ ap (λ (o : OptionValues). record it {
      options = o;
      stops_on_entry = next.stops_on_entry;
      is_run_only = next.is_run_only;
      printed = next.printed;
    }) options
    ∙ ap (λ (b : Bool). record it { stops_on_entry = b; is_run_only = next.is_run_only; printed = next.printed }) entry
    ∙ ap (λ (b : Bool). record it { is_run_only = b; printed = next.printed }) only
    ∙ ap (λ (n : ℕ). record it { printed = n }) printed

-- what a run that has just begun watches once it watches what another one does
watched_over : (next : Debugged) (there : List Watched) → next.run.state.stop.watched ≡ [] →
    length there ≤ most_watched → with_all there next.run.state.stop.watched ≡ there
watched_over next there none few =
    ap (λ (it : List Watched). with_all there it) none ∙ all_watched_again there few

pub launched_again : (before next again : Debugged) (launch : Launch) → launch.options ≡ before.options →
    string_bytes launch.path ≡ before.path → launch.stops_on_entry ≡ before.stops_on_entry →
    launch.is_run_only ≡ before.is_run_only → IsLaunched launch next →
    length before.run.state.stop.watched ≤ most_watched →
    StopsAsAsked (with_stops_wanted next before) again → LaunchesAgain before again
launched_again before next again launch options path entry only launched few stops =
    let it = launched.1.1 in
    let none = ap (λ state. state.stop.watched) it.begins.start in
    let watched = watched_over next before.run.state.stop.watched none few in
    record {
      deck = launched.0;
      input = launched.1.0;
      fresh = record next { on_cards = before.on_cards; on_labels = before.on_labels };
      begins = subst (λ (o : OptionValues). BeginsWith o launched.0 launched.1.0 next.run next.names) options it.begins;
      same = same_wanted before next (it.path ∙ path) (it.options ∙ options) (it.entry ∙ entry) (it.only ∙ only) it.printed;
      stops = subst (λ (all : List Watched). StopsAsAsked (record next {
        run = watching all next.run;
        on_cards = before.on_cards;
        on_labels = before.on_labels;
      }) again) watched stops;
    }
