use Rattle.std.proofs.Common.{◌≡◌, ℕ, List, Some, ap, sym, ◌∙◌, subst}
use Rattle.std.proofs.lemmas.Result.{err_from_is_err_and}
use Rattle.l6_image.specs.Image.{words_in}
use Rattle.l6_image.specs.Text.{text_in, text_of_words}
use Rattle.l6_image.specs.inner.decode.Loading.{program_in}
use Rattle.l6_image.specs.inner.decode.Seen.{Fails}
use Rattle.l6_image.proofs.Loadings.{line_loads, words_load, words_show, found_loads, others_load, others_show}
use Rattle.l6_image.proofs.decode.loading.load.Goals as goal

pub returns-in_err-words-clause-complete : goal.returns-in_err-words-clause-complete
returns-in_err-words-clause-complete c program is =
    let p = err_from_is_err_and c.from_residual.result c.from_residual.ensures.1 in
    rw (p.1, p.2)
    (line_loads c.args.text.now c.in_err-words.field-0.0 program c.in_err-words.ensures.fault is)

pub returns-in_err-version-clause-complete : goal.returns-in_err-version-clause-complete
returns-in_err-version-clause-complete c program image =
    let p = err_from_is_err_and c.from_residual-in_err-version.result
    c.from_residual-in_err-version.ensures.1 in
    let words = c.in_ok-words.words.items in
    let fails = subst (λ (ws : List ℕ). Fails c.in_err-version.field-0.0 (program_in ws))
    c.deref.ensures.value c.in_err-version.ensures.found in
    rw (p.1, p.2)
    (words_load c.args.text.now words c.in_ok-words.ensures.known c.in_ok-words.ensures.words
    c.in_err-version.field-0.0 program fails image)

pub returns-in_err-version-clause-fault : goal.returns-in_err-version-clause-fault
returns-in_err-version-clause-fault c =
    let p = err_from_is_err_and c.from_residual-in_err-version.result
    c.from_residual-in_err-version.ensures.1 in
    let words = c.in_ok-words.words.items in
    let fails = subst (λ (ws : List ℕ). Fails c.in_err-version.field-0.0 (program_in ws))
    c.deref.ensures.value c.in_err-version.ensures.found in
    rw (p.1, p.2)
    (words_show c.args.text.now words c.in_ok-words.ensures.known c.in_ok-words.ensures.words
    c.in_err-version.field-0.0 fails)

pub returns-then-not-branch-clause-complete : goal.returns-then-not-branch-clause-complete
returns-then-not-branch-clause-complete c program image =
    let words = c.in_ok-words.words.items in
    let is : program_in words ≡ Some (c.in_ok-version.version, c.in_ok-version.program) =
    ap program_in (sym c.deref.ensures.value) ∙ c.in_ok-version.ensures.found in
    let differ : words_in c.in_ok-version.version c.in_ok-version.program ≡ words → ⊥ =
    λ equal. let no = c.if-not-branch.true in
    let yes = c.in_ok-are_words_of.ensures.same.1 (c.deref-2.ensures.value ∙ sym equal) in
    absurd (cc) in
    others_load c.args.text.now words c.in_ok-words.ensures.known c.in_ok-words.ensures.words
    (c.in_ok-version.version, c.in_ok-version.program) program is differ image

pub returns-then-not-branch-clause-fault : goal.returns-then-not-branch-clause-fault
returns-then-not-branch-clause-fault c =
    let words = c.in_ok-words.words.items in
    let is : program_in words ≡ Some (c.in_ok-version.version, c.in_ok-version.program) =
    ap program_in (sym c.deref.ensures.value) ∙ c.in_ok-version.ensures.found in
    let differ : words_in c.in_ok-version.version c.in_ok-version.program ≡ words → ⊥ =
    λ equal. let no = c.if-not-branch.true in
    let yes = c.in_ok-are_words_of.ensures.same.1 (c.deref-2.ensures.value ∙ sym equal) in
    absurd (cc) in
    others_show c.args.text.now words c.in_ok-words.ensures.known c.in_ok-words.ensures.words
    (c.in_ok-version.version, c.in_ok-version.program) is differ

pub returns-clause-sound : goal.returns-clause-sound
unfolding text_in
returns-clause-sound c =
    let same = c.in_ok-are_words_of.ensures.same.0 c.if-not-branch.false in (
      c.in_ok-version.version,
      c.in_ok-are_words_of.ensures.known c.in_ok-version.ensures.few,
      c.in_ok-words.ensures.words ∙ ap text_of_words (sym c.deref-2.ensures.value ∙ same),
    )

pub returns-clause-complete : goal.returns-clause-complete
returns-clause-complete c program image =
    let words = c.in_ok-words.words.items in
    let is : program_in words ≡ Some (c.in_ok-version.version, c.in_ok-version.program) =
    ap program_in (sym c.deref.ensures.value) ∙ c.in_ok-version.ensures.found in
    found_loads c.args.text.now words c.in_ok-words.ensures.known c.in_ok-words.ensures.words
    (c.in_ok-version.version, c.in_ok-version.program) program is image
