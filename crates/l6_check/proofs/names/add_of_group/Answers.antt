use Rattle.std.proofs.Common.{◌≡◌, ℕ, List, [], sym, ap, subst, arith, rules}
use Rattle.std.specs.List.{flat_map}
use Rattle.l6_group.specs.declared.label.Label.{Label}
use Rattle.l6_check.specs.Missing.{labels_in, missing_if, missing_in_group}
use Rattle.l6_check.specs.inner.Names.{AreAdded}
use Rattle.l6_check.proofs.Keeping.{on_ok}
use Rattle.l6_check.proofs.MissingSteps.{both_added, none_added}
use Rattle.l6_check.proofs.names.add_of_group.Goals as goal

pub returns-in_ok-add_if_missing-in-Call : goal.returns-in_ok-add_if_missing-in-Call
returns-in_ok-add_if_missing-in-Call c =
    let given = c.args.given.now.entries in
    let old = c.args.missing.now in
    let new = c.add_if_given.new.missing in
    let missing = missing_if given c.args.group.now.card in
    on_ok c.add_if_given.result c.add_if_given.ensures (λ second.
    subst (λ (l : List (ℕ × Label)). AreAdded given l 2 old new)
    (sym (ap (λ o. flat_map missing (labels_in o)) c.in-Call.is))
    (both_added given _ _ 1 1 2 old c.add_if_missing.new.missing new (omega arith)
    c.in_ok-add_if_missing-in-Call.ensures second))

pub returns-in_default : goal.returns-in_default
returns-in_default c =
    let given = c.args.given.now.entries in
    let group = c.args.group.now in
    let none : labels_in group.reading ≡ [] = search rules in
    none_added given (missing_in_group given group) 2 c.args.missing.now
    (ap (flat_map (missing_if given group.card)) none)
