use Rattle.std.proofs.Common.{sym, subst, rules, tests}
use Rattle.std.proofs.lemmas.Iterator.{YieldsList-from_slice}
use Rattle.std.proofs.lemmas.Iterator.Search.{position_from_yields_List}
use Rattle.std.proofs.lemmas.Option.{MatchOption-at_none, MatchOption-at_some}
use Rattle.l6_group.specs.Character.{is_blank}
use Rattle.l6_debug.proofs.Words.{IsCutAt, split_first}
use Rattle.l6_debug.proofs.reading.split_at_blank.Goals as goal

pub returns-in_err-place-clause-parts : goal.returns-in_err-place-clause-parts
returns-in_err-place-clause-parts c =
    let bytes = c.args.bytes.now in
    let found = position_from_yields_List is_blank _ _ c.position.result c.position.ensures.ran
    (YieldsList-from_slice bytes cc) (λ x b q k. search (rules, tests)) in
    let whole = MatchOption-at_none _ _ c.in_err-place.was
    (subst (IsCutAt bytes) (sym found) (split_first bytes)) in
    search rules

pub returns-clause-parts : goal.returns-clause-parts
returns-clause-parts c =
    let bytes = c.args.bytes.now in
    let found = position_from_yields_List is_blank _ _ c.position.result c.position.ensures.ran
    (YieldsList-from_slice bytes cc) (λ x b q k. search (rules, tests)) in
    MatchOption-at_some _ _ _ c.in_ok-place.was
    (subst (IsCutAt bytes) (sym found) (split_first bytes))
