use Rattle.std.proofs.Common.{◌≡◌, drop}
use Rattle.l6_image.specs.Image.{body}
use Rattle.l6_image.proofs.encode.comparing.are_body_of.Given as goal

-- the words are those of all statements just if the rest is those of the statements to come
abbrev pub invariant-loop-statement : goal.invariant-loop-statement
invariant-loop-statement l = record {
  onward : l.fn.words ≡ body l.version l.statements
      → l.rest ≡ body l.version (drop l.statement-index l.statements);
  back : l.rest ≡ body l.version (drop l.statement-index l.statements)
      → l.fn.words ≡ body l.version l.statements;
}
