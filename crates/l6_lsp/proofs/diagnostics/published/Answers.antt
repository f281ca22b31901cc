use Rattle.std.proofs.Common.{ℕ, List, refl, ap, subst, ◌∙◌}
use Rattle.serde_json.specs.Data.{Data}
use Rattle.l6_lsp.specs.Diagnostics as spec
use Rattle.l6_lsp.proofs.diagnostics.published.Goals as goal

pub returns : goal.returns
returns c =
    let found = c.in_ok-found.ensures in
    record {
      values = found.0;
      found = subst (λ (deck : List ℕ). spec.IsFound deck found.0) c.deck.ensures found.1;
      method = refl;
      parameters = c.in_ok-parameters.ensures
          ∙ ap (λ (d : Data). spec.parameters_of c.args.uri.now c.args.document.now.version d) found.2;
    }
