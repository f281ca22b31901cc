use Rattle.std.proofs.Common.{◌≡◌, sym, ◌∙◌}
use Rattle.std.specs.Cmp.Lexicographic.{same_text}
use Rattle.l6_lsp.proofs.SamePrograms.{one_program}
use Rattle.l6_lsp.proofs.programs.have_one_program.Goals as goal

pub returns : goal.returns
returns c = λ same.
    let words : c.as_slice.result.now ≡ c.as_slice-2.result.now
    = same_text c.as_slice.result.now c.as_slice-2.result.now (sym same ∙ c.eq.ensures) in
    let before = c.as_slice.ensures.value ∙ c.in_ok-before.ensures.words in
    let after = c.as_slice-2.ensures.value ∙ c.in_ok-after.ensures.words in
    sym c.program-2.ensures
    ∙ sym (one_program c.program.result.now c.program-2.result.now c.in_ok-before.ensures.known
    c.in_ok-after.ensures.known (sym before ∙ words ∙ after))
    ∙ c.program.ensures
