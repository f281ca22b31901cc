use Rattle.std.proofs.Common.{refl, arith}
use Rattle.std.proofs.lemmas.Map.Text.{text_keys}
use Rattle.l6_lsp.proofs.decks.Decks.store.Goals as goal

pub returns : goal.returns
returns c = record {
  document = record { version = c.args.version; text = c.args.text };
  is_open = grind (arith, text_keys);
  version_is = refl;
  text_is = refl;
  others = λ other apart. grind (arith, text_keys);
  it = c.in_ok-note.note;
  is = refl;
  published = c.in_ok-note.ensures;
}
