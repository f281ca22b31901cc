use Rattle.std.proofs.Common.{◌≡◌, ℕ, ◌+◌, ◌<◌, ◌==◌, false, true, List, ◌∷◌, ◌++◌, [], length, get_or, drop, refl, sym, ap, ◌∙◌, rules, add-one, drop-cons}
use Rattle.std.proofs.Math.ListN.{drop_of_length-le}
use Rattle.std.proofs.lemmas.Bool.{eqb-true}
use Rattle.std.proofs.lemmas.List.{append_cancel_left, get_or_default, nil_from_length}
use Rattle.std.proofs.lemmas.List.Concat.{flat_map-cons}
use Rattle.l6_prog.specs.Statement.{Parts, plain_done}
use Rattle.l6_image.specs.Image.{body, words_in_statement}
use Rattle.l6_image.specs.declared.version.Version.{Version}
use Rattle.l6_image.proofs.encode.comparing.are_body_of.Goals as goal

-- the words of the statements from one on are its own, and those of the statements after it
with_next : (version : Version) (statements : List Parts) (place : ℕ) (statement : Parts)
    (row : List ℕ) → place < length statements → statement ≡ get_or statements place plain_done →
    row ≡ words_in_statement version statement →
    body version (drop place statements) ≡ row ++ body version (drop (place + 1) statements)
with_next version statements place statement row within is same =
    let later = drop (place + 1) statements in
    let these : drop place statements ≡ statement ∷ later =
    rw (drop-cons statements place plain_done, add-one, ← is) refl in
    ap (body version) these
    ∙ flat_map-cons (words_in_statement version) statement later
    ∙ ap (λ words. words ++ body version later) (sym same)

-- the words of this statement do not follow
pub returns-in_default : goal.returns-in_default
returns-in_default c =
    let statements = c.args.statements.now in
    let now = c.loop-statement in
    let is = c.statement-item.is
    ∙ get_or_default statements now.statement-index c.statement-item.result plain_done
    c.loop-statement-test.true in
    let row : c.deref.result.now ≡ words_in_statement c.args.version c.statement-item.result =
    search rules in (
      λ no. absurd (let bad : false ≡ true = no in cc),
      λ same. absurd (c.in_default.ensures.none _
          (now.invariant.onward same
          ∙ with_next c.args.version statements now.statement-index c.statement-item.result
          c.deref.result.now c.loop-statement-test.true is row)),
    )

pub loop-statement-preserved : goal.loop-statement-preserved
loop-statement-preserved c =
    let statements = c.args.statements.now in
    let now = c.loop-statement in
    let is = c.statement-item.is
    ∙ get_or_default statements now.statement-index c.statement-item.result plain_done
    c.loop-statement-test.true in
    let row : c.deref.result.now ≡ words_in_statement c.args.version c.statement-item.result =
    search rules in
    let next = with_next c.args.version statements now.statement-index c.statement-item.result
    c.deref.result.now c.loop-statement-test.true is row in
    record {
      onward = λ same. append_cancel_left c.deref.result.now _ _
          (sym c.in-Some.ensures.found ∙ now.invariant.onward same ∙ next);
      back = λ same. now.invariant.back
          (c.in-Some.ensures.found ∙ ap (λ words. c.deref.result.now ++ words) same ∙ sym next);
    }

-- no statement is left, and so no word may be
pub returns : goal.returns
returns c =
    let now = c.loop-statement in
    let none : body c.args.version (drop now.statement-index c.args.statements.now) ≡ [] =
    ap (body c.args.version) (drop_of_length-le c.args.statements.now c.loop-statement-test.false) in (
      λ yes. now.invariant.back
          (nil_from_length now.rest.now (eqb-true _ _ (sym c.is_empty.ensures ∙ yes)) ∙ sym none),
      λ same. c.is_empty.ensures
          ∙ ap (λ words. length words == 0) (now.invariant.onward same ∙ none),
    )
