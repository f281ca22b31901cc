use Rattle.std.proofs.Common.{◌≡◌, is_some, true, false, sym, ◌∙◌, rules}
use Rattle.l6_check.specs.Labels.{first_card}
use Rattle.l6_check.specs.Missing.{missing_if}
use Rattle.l6_check.proofs.Keeping.{on_ok}
use Rattle.l6_check.proofs.MissingSteps.{is_given, is_not_given, none_added, one_added, one_skipped}
use Rattle.l6_check.proofs.names.add_if_missing.Goals as goal

pub returns-then-is_some : goal.returns-then-is_some
returns-then-is_some c =
    let given = c.args.given.now.entries in
    let label = c.args.label.now in
    let one : is_some (first_card given label) ≡ true = search rules in
    none_added given (missing_if given c.args.card label) 1 c.args.missing.now (is_given given c.args.card label one)

pub returns-then-is_full : goal.returns-then-is_full
returns-then-is_full c =
    let given = c.args.given.now.entries in
    let label = c.args.label.now in
    let none : is_some (first_card given label) ≡ false = search rules in
    one_skipped given (missing_if given c.args.card label) c.args.card label c.args.missing.now c.skip.new.self
    (is_not_given given c.args.card label none) (sym c.is_full.ensures ∙ c.if-is_full.true) c.skip.ensures

pub returns : goal.returns
returns c =
    let given = c.args.given.now.entries in
    let label = c.args.label.now in
    let none : is_some (first_card given label) ≡ false = search rules in
    on_ok c.add.result c.add.ensures (λ added.
    one_added given (missing_if given c.args.card label) c.args.card label c.args.missing.now c.add.new.self
    c.missing_on.result (is_not_given given c.args.card label none) c.missing_on.ensures.said
    c.missing_on.ensures.place c.missing_on.ensures.near added)
