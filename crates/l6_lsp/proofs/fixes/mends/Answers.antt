use Rattle.std.proofs.Common.{◌∷◌, [], List, ℕ, ap, subst, ◌∙◌}
use Rattle.l6_check.specs.Listed.{AreAllOf}
use Rattle.l6_lsp.specs.Document.{deck_of}
use Rattle.l6_lsp.specs.Edits.{edited}
use Rattle.l6_lsp.proofs.Mended.{mended_by}
use Rattle.l6_lsp.proofs.fixes.mends.Goals as goal

pub returns : goal.returns
returns c less =
    let deck = c.deck_in-deck.ensures
    ∙ ap deck_of (c.as_slice.ensures.value ∙ c.in_ok-after.ensures
    ∙ ap (λ (b : List ℕ). edited c.args.text.now ((c.args.start, c.args.end) ∷ []) b) c.as_bytes.ensures.value) in
    mended_by (deck_of c.args.text.now) _ c.args.findings.now c.in_ok-then.then.items c.as_slice-2.result.now
    c.are_less.result c.requires
    (subst (λ (d : List ℕ). AreAllOf d c.in_ok-then.then.items) deck c.in_ok-then.ensures)
    c.as_slice-2.ensures.value c.are_less.ensures less
