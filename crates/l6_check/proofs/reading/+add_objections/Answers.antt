use Rattle.std.proofs.Common.{rules, ◌≡◌, ◌+◌, ◌-◌, ◌++◌, [], ◌∷◌, List, length, length-take, suc, take, take_all, append_assoc, append-nil, arith, sym, ap, ◌∙◌, subst, Some, None}
use Rattle.l6_word.specs.Lines.{lines_of}
use Rattle.l6_card.specs.ReadAlone.{objection_to_lines}
use Rattle.l6_card.specs.declared.objection.Objection.{Objection}
use Rattle.l6_check.specs.Explains.{Explains}
use Rattle.l6_check.specs.Kept.{AreOf}
use Rattle.l6_check.specs.Statements.{objections_in}
use Rattle.l6_check.specs.inner.Mending.{AreMended}
use Rattle.l6_check.specs.inner.Parts.{lines_in}
use Rattle.l6_check.proofs.Keeping.{on_ok}
use Rattle.l6_check.proofs.Mending.{mended_count}
use Rattle.l6_check.proofs.Objections.{objections_more, objections_none, objections_one}
use Rattle.l6_check.proofs.reading.+add_objections.Goals as goal

pub returns-in_default-clause-said : goal.returns-in_default-clause-said
returns-in_default-clause-said t c objections are =
    let number = c.args.now.before + 1 in
    let lines = lines_in c.args.now in
    let none : objection_to_lines number lines ≡ None = sym c.in_ok-objection.ensures ∙ c.in_default.is in
    let found = objections_none c.args.most number lines none in
    subst (λ (l : List Objection). AreOf Explains l c.args.reading.now)
    (sym (append-nil objections) ∙ sym (ap (λ more. objections ++ more) found)) are

pub returns-in_default-2-clause-said : goal.returns-in_default-2-clause-said
returns-in_default-2-clause-said t c objections are =
    let number = c.args.now.before + 1 in
    let lines = lines_in c.args.now in
    let objection = c.in-Some.objection in
    let most = c.args.most in
    let one : most ≡ suc (most - 1) = omega (arith, c.if-most-eq0.false) in
    let met : objection_to_lines number lines ≡ Some objection = sym c.in_ok-objection.ensures ∙ c.in-Some.is in
    let alone = rw c.in_default-2.is at c.in_ok-text.ensures in
    let found = objections_one most (most - 1) number lines objection one met alone in
    subst (λ (l : List Objection). AreOf Explains l c.add_error.new.found)
    (sym (ap (λ more. objections ++ more) found)) (c.in_ok-add_error.ensures.said objections are)

pub returns-clause-said : goal.returns-clause-said
returns-clause-said t c =
    let number = c.args.now.before + 1 in
    let count = c.args.now.count in
    let lines = lines_in c.args.now in
    let objection = c.in-Some.objection in
    let most = c.args.most in
    let text = c.in-Some-2.text.items in
    let one : most ≡ suc (most - 1) = omega (arith, c.if-most-eq0.false) in
    let met : objection_to_lines number lines ≡ Some objection = sym c.in_ok-objection.ensures ∙ c.in-Some.is in
    let made : AreMended objection c.args.now text = search rules in
    let short = length-take count (lines_of c.args.now.text.now) in
    let as_many = ap length made.lines ∙ mended_count objection made.columns number lines in
    let same = ap (λ b. take count (lines_of b)) c.deref.ensures.value
    ∙ take_all count (lines_of text) (omega (arith, short, as_many)) ∙ made.lines in
    let rest = objections_in (most - 1) number (take count (lines_of c.deref.result.now)) in
    on_ok c.add_objections.result c.add_objections.ensures.said (λ said objections are.
    subst (λ (l : List Objection). AreOf Explains l c.add_objections.new.reading)
    (append_assoc objections (objection ∷ []) rest
    ∙ ap (λ ls. objections ++ (objection ∷ objections_in (most - 1) number ls)) same
    ∙ sym (ap (λ more. objections ++ more)
    (objections_more most (most - 1) number lines objection made.columns one met made.stand)))
    (said (objections ++ objection ∷ []) (c.in_ok-add_error.ensures.said objections are)))

pub returns-clause-places : goal.returns-clause-places
returns-clause-places t c =
    on_ok c.add_objections.result c.add_objections.ensures.places (λ stay each.
    stay (c.in_ok-add_error.ensures.places each))
