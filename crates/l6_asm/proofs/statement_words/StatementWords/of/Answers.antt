use Rattle.std.proofs.Common.{◌≡◌, ◌<◌, ◌++◌, ◌∷◌, [], ◌∙◌, length, get_or, map, true, ap, refl, rules}
use Rattle.std.specs.List.{list_all}
use Rattle.std.proofs.lemmas.List.{map-append}
use Rattle.std.proofs.lemmas.List.Folds.{list_all-append}
use Rattle.l6_prog.specs.Statement.{plain_done}
use Rattle.l6_asm.specs.inner.CardsLeft.{are_words}
use Rattle.l6_asm.proofs.StatementLines.{statement_more, targets_known}
use Rattle.l6_asm.proofs.statement_words.StatementWords.of.Goals as goal

pub loop-number-preserved : goal.loop-number-preserved
loop-number-preserved c =
    let program = c.args.program.now in
    let number = c.loop-number.number in
    let statement = c.statement.result.now in
    let words = c.in_ok-statement_words.field-0.items in
    let before = map (λ v. v.items) c.loop-number.statements.items in
    let within : number < length program = search rules in
    let is : statement ≡ get_or program number plain_done = search rules in
    let added : map (λ v. v.items) c.push.new.self.items ≡ before ++ words ∷ [] =
    ap (map (λ v. v.items)) c.in_ok-push.ensures.items
    ∙ map-append (λ v. v.items) c.loop-number.statements.items _ in
    let known : are_words words ≡ true =
    c.in_ok-statement_words.ensures.fit
    (targets_known program statement c.statement.ensures.count c.statement.ensures.targets) in
    record {
      made = statement_more program number statement plain_done words before _ within is
          c.in_ok-statement_words.ensures.words c.loop-number.invariant.made added;
      known = ap (list_all are_words) added
          ∙ list_all-append are_words before (words ∷ [])
          ∙ rw (c.loop-number.invariant.known, known) refl;
    }
