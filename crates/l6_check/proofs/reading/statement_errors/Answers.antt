use Rattle.std.proofs.Common.{arith, ◌≡◌, refl, ℕ, ◌+◌, ◌++◌, List, [], map, append_assoc, append-nil, sym, ap, ◌∙◌, subst}
use Rattle.l6_word.specs.Lines.{lines_of}
use Rattle.l6_card.specs.declared.objection.Objection.{Objection}
use Rattle.l6_check.specs.Faults.{fault_of_finding}
use Rattle.l6_check.specs.Explains.{Explains}
use Rattle.l6_check.specs.Kept.{Say, AreOf}
use Rattle.l6_check.specs.Missing.{MissingFrom, missing_said}
use Rattle.l6_group.specs.declared.label.Label.{Label}
use Rattle.l6_check.specs.Statements.{most_of_statement, objected, objections_from, objections_in, parts_of}
use Rattle.l6_check.specs.inner.Parts.{lines_in}
use Rattle.l6_check.proofs.Explaining.{faults_said}
use Rattle.l6_check.proofs.MissingParts.{missing_next}
use Rattle.l6_check.proofs.StatementParts.{objections_next}
use Rattle.l6_check.proofs.reading.statement_errors.Goals as goal

pub loop-part-preserved : goal.loop-part-preserved
loop-part-preserved c =
    let part = c.in-Some.part in
    let before = c.loop-part.parts in
    let after = c.next.new.self in
    let next = rw c.in-Some.is at c.next.ensures in
    let all = lines_of before.rest.now in
    let left = lines_of after.rest.now in
    let lines = lines_in part in
    let number = part.before + 1 in
    let so_far = c.loop-part.invariant.reading.0 in
    let named = c.loop-part.invariant.missing.0 in
    let here = c.in_ok-add_errors.ensures.missing in
    let found = objections_in most_of_statement number lines in
    let leads : after.before + 1 ≡ number + part.count = omega (arith, next.left, next.number) in
    let begins : number ≡ before.before + 1 = ap (λ n. n + 1) next.number in
    record {
      reading = (
        so_far ++ found,
        c.in_ok-add_errors.ensures.reading so_far c.loop-part.invariant.reading.1,
        objections_next all left lines number part.count (after.before + 1) so_far _ next.parts next.counted
            leads
            (ap (λ n. so_far ++ objections_from n (parts_of all)) begins ∙ c.loop-part.invariant.reading.2),
      );
      places = c.in_ok-add_errors.ensures.places c.loop-part.invariant.places;
      missing = (
        named ++ here.here,
        here.said named c.loop-part.invariant.missing.1,
        λ more from.
            subst (λ (l : List (ℕ × Label)).
            MissingFrom c.args.given.now.entries 1 (parts_of (lines_of c.args.deck.now)) l)
            (sym (append_assoc named here.here more))
            (c.loop-part.invariant.missing.2 (here.here ++ more)
            (subst (λ (n : ℕ). MissingFrom c.args.given.now.entries n (parts_of all) (here.here ++ more)) begins
            (missing_next all left c.args.given.now.entries lines number part.count (after.before + 1)
            here.here more next.parts next.counted leads here.are from))),
      );
      missing_places = c.in_ok-add_errors.ensures.missing_places c.loop-part.invariant.missing_places;
      near = c.in_ok-add_errors.ensures.near c.loop-part.invariant.near;
      missing_few = omega (
        arith,
        next.left,
        c.in_ok-add_errors.ensures.missing_count,
        c.loop-part.invariant.missing_few,
      );
      few = omega (arith, next.left, c.in_ok-add_errors.ensures.count, c.loop-part.invariant.few, next.positive);
      numbers = omega (arith, next.left, next.fewer, c.loop-part.invariant.numbers);
    }

pub returns-clause-missing : goal.returns-clause-missing
returns-clause-missing c =
    let named = c.loop-part.invariant.missing.0 in
    let none = rw c.in_default.is at c.next.ensures in
    record {
      things = named ++ [];
      are = c.loop-part.invariant.missing.2 []
          (subst (λ (ls : List (List ℕ)).
          MissingFrom c.args.given.now.entries (c.loop-part.parts.before + 1) (parts_of ls) [])
          (sym none) refl);
      said = subst (λ (l : List (ℕ × Label)). Say missing_said l c.loop-part.missing)
          (sym (append-nil named)) c.loop-part.invariant.missing.1;
    }

pub returns-clause-explained : goal.returns-clause-explained
returns-clause-explained c =
    let said = c.loop-part.invariant.reading in
    let none = rw c.in_default.is at c.next.ensures in
    let all = sym (append-nil said.0)
    ∙ ap (λ ls. said.0 ++ objections_from (c.loop-part.parts.before + 1) (parts_of ls)) (sym none) ∙ said.2 in
    subst (λ (l : List Objection). AreOf Explains l c.loop-part.reading) all said.1

pub returns-clause-reading : goal.returns-clause-reading
returns-clause-reading c =
    let said = c.loop-part.invariant.reading in
    let none = rw c.in_default.is at c.next.ensures in
    let all = sym (append-nil said.0)
    ∙ ap (λ ls. said.0 ++ objections_from (c.loop-part.parts.before + 1) (parts_of ls)) (sym none) ∙ said.2 in
    subst (λ (l : List Objection). Say fault_of_finding (map objected l) c.loop-part.reading) all
    (faults_said said.0 c.loop-part.reading said.1)
