use Rattle.std.proofs.Common.{ℕ, Bool, List, length, sym, subst}
use Rattle.std.specs.List.{flat_map}
use Rattle.l6_word.specs.Lines.{lines_of}
use Rattle.l6_prog.specs.Target.{targets_of}
use Rattle.l6_check.specs.Kept.{Say}
use Rattle.l6_check.specs.Warnings.{condition_card}
use Rattle.l6_prog.specs.Statement.{Parts}
use Rattle.l6_check.specs.Certain.{trapping_card, traps_in}
use Rattle.l6_check.specs.Running.{calls_of, exits_of, idle_card, idles_at, running_card, runs_on_at}
use Rattle.l6_check.specs.Ways.{AreReached, statements_where, unnamed_card}
use Rattle.l6_check.specs.inner.Marks.{AreMarks, AreMarksBelow, is_marked}
use Rattle.l6_check.proofs.Keeping.{if_ok}
use Rattle.l6_check.proofs.RunningSteps.{running_same}
use Rattle.l6_check.proofs.WaySteps.{conditions_same, unnamed_same}
use Rattle.l6_check.proofs.ways.statement_warnings.Goals as goal

pub returns-clause-conditions : goal.returns-clause-conditions
returns-clause-conditions c =
    if_ok c.warnings_by.result c.warnings_by.ensures (λ found says_all.
    let says = says_all.conditions in
    subst (λ (l : List ℕ). Say condition_card l found.conditions)
    (conditions_same 0 1 (lines_of c.args.deck.now)) says)

pub returns-clause-unnamed : goal.returns-clause-unnamed
returns-clause-unnamed c =
    let program = c.args.program.now in
    let are = subst (λ (m : List Bool). AreMarks (flat_map targets_of program) m)
    (sym c.deref.ensures.value) c.in_ok-named.ensures in
    let marks = c.deref-2.result.now in
    let are_reached = subst (λ (m : List Bool). AreReached program (is_marked m))
    (sym c.deref-2.ensures.value) c.in_ok-reached.ensures in
    if_ok c.warnings_by.result c.warnings_by.ensures (λ found says_all.
    let says = says_all.unnamed in
    record {
      reached = is_marked marks;
      are = are_reached;
      said = subst (λ (l : List ℕ). Say unnamed_card l found.unnamed)
          (unnamed_same program c.deref.result.now (is_marked marks) are (lines_of c.args.deck.now)) says;
    })

pub returns-clause-unreached : goal.returns-clause-unreached
returns-clause-unreached c =
    let marks = c.deref-2.result.now in
    let are = subst (λ (m : List Bool). AreReached c.args.program.now (is_marked m))
    (sym c.deref-2.ensures.value) c.in_ok-reached.ensures in
    if_ok c.warnings_by.result c.warnings_by.ensures (λ found says_all.
    let says = says_all.unreached in
    record { reached = is_marked marks; are = are; said = says })

pub returns-clause-idle : goal.returns-clause-idle
returns-clause-idle c =
    if_ok c.warnings_by.result c.warnings_by.ensures (λ found says_all.
    let says = says_all.idle in
    subst (λ (p : List Parts).
    Say idle_card (statements_where (idles_at p) 0 1 (lines_of c.args.deck.now)) found.idle)
    c.statements.ensures.value says)

pub returns-clause-running : goal.returns-clause-running
returns-clause-running c =
    let program = c.args.program.now in
    let called = subst (λ (m : List Bool). AreMarksBelow (length program) (flat_map calls_of program) m)
    (sym c.deref-3.ensures.value) c.in_ok-called.ensures in
    let left_to = subst (λ (m : List Bool). AreMarksBelow (length program) (flat_map exits_of program) m)
    (sym c.deref-4.ensures.value) c.in_ok-left_to.ensures in
    if_ok c.warnings_by.result c.warnings_by.ensures (λ found says_all.
    let says = says_all.running in
    subst (λ (l : List ℕ). Say running_card l found.running)
    (running_same program c.deref-3.result.now c.deref-4.result.now called left_to (lines_of c.args.deck.now))
    (subst (λ (p : List Parts).
    Say running_card
    (statements_where (runs_on_at (is_marked c.deref-3.result.now) (is_marked c.deref-4.result.now) p) 0 1
    (lines_of c.args.deck.now)) found.running)
    c.statements.ensures.value says))

pub returns-clause-trapping : goal.returns-clause-trapping
returns-clause-trapping c =
    if_ok c.warnings_by.result c.warnings_by.ensures (λ found says_all.
    let says = says_all.trapping in
    subst (λ (p : List Parts).
    Say trapping_card (statements_where (traps_in p) 0 1 (lines_of c.args.deck.now)) found.trapping)
    c.statements.ensures.value says)
