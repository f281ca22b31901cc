use Rattle.std.proofs.Common.{◌≡◌, ◌++◌, take}
use Rattle.std.specs.List.{flat_map}
use Rattle.l6_image.specs.Image.{words_in_statement}
use Rattle.l6_image.proofs.encode.writing.push_statements.Given as goal

-- the words of the statements so far are written
abbrev pub invariant-loop-statement : goal.invariant-loop-statement
invariant-loop-statement l =
    l.words.items
    ≡ l.fn.words.items ++ flat_map (words_in_statement l.version) (take l.statement-index l.statements)
