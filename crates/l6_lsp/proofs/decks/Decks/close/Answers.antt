use Rattle.std.proofs.Common.{Some, refl, arith, subst}
use Rattle.std.proofs.lemmas.Map.Text.{text_keys}
use Rattle.l6_lsp.specs.Decks as spec
use Rattle.l6_lsp.proofs.decks.Decks.close.Goals as goal

pub returns : goal.returns
returns c =
    let closed : spec.IsClosed c.args.self.now c.in-Some.uri.now (Some c.in_ok-note.note)
    (record { documents = c.shift_remove.new.self }) = record {
      closed = grind (arith, text_keys);
      others = λ other apart. grind (arith, text_keys);
      it = c.in_ok-note.note;
      is = refl;
      withdrawn = c.in_ok-note.ensures;
    } in
    subst (λ name. spec.Closes c.args.self.now name (Some c.in_ok-note.note)
    (record { documents = c.shift_remove.new.self })) c.in-Some.ensures closed
