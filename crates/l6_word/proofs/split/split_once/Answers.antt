use Rattle.std.proofs.Common.{◌≡◌, eqb, true, rules, tests}
use Rattle.std.specs.Prelude.{not}
use Rattle.std.proofs.lemmas.Iterator.{IsFirst-from_position, YieldsList-from_slice}
use Rattle.std.proofs.lemmas.Option.{MatchOption-at_none, MatchOption-at_some}
use Rattle.l6_word.proofs.Cuts.{cut_first}
use Rattle.l6_word.proofs.split.split_once.Goals as goal

pub returns-in_err-place-clause-none : goal.returns-in_err-place-clause-none
returns-in_err-place-clause-none c =
    let separator = c.args.separator in
    let bytes = c.args.bytes.now in
    let lacking = MatchOption-at_none _ _ c.in_err-place.was (cut_first separator bytes c.position.result
    (IsFirst-from_position _ _ _ (λ b. b ≡ separator) (λ b. not (eqb b separator) ≡ true)
    c.position.ensures.ran (YieldsList-from_slice bytes cc) (λ x q k. search (rules, tests))
    (λ x q k. search (rules, tests)))) in
    search rules

pub returns-clause-parts : goal.returns-clause-parts
returns-clause-parts c =
    let separator = c.args.separator in
    let bytes = c.args.bytes.now in
    MatchOption-at_some _ _ _ c.in_ok-place.was (cut_first separator bytes c.position.result
    (IsFirst-from_position _ _ _ (λ b. b ≡ separator) (λ b. not (eqb b separator) ≡ true)
    c.position.ensures.ran (YieldsList-from_slice bytes cc) (λ x q k. search (rules, tests))
    (λ x q k. search (rules, tests))))
