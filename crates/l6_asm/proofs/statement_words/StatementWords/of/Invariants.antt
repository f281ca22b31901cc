use Rattle.std.proofs.Common.{◌≡◌, true, map, take}
use Rattle.std.specs.List.{list_all}
use Rattle.l6_image.specs.Image.{statement_words}
use Rattle.l6_asm.specs.inner.CardsLeft.{are_words}
use Rattle.l6_asm.proofs.statement_words.StatementWords.of.Given as goal

-- the words of the statements so far
abbrev pub invariant-loop-number : goal.invariant-loop-number
invariant-loop-number l = record {
  made : map (λ v. v.items) l.statements.items ≡ map statement_words (take l.number l.program);
  known : list_all are_words (map (λ v. v.items) l.statements.items) ≡ true;
}
