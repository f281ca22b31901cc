use Rattle.std.proofs.Common.{◌≡◌, ◌++◌}
use Rattle.std.specs.Prelude.{replicate}
use Rattle.std.specs.Str.{byte}
use Rattle.l6_marks.proofs.card.push_blanks.Given as goal

-- so many blanks so far
abbrev pub invariant-loop : goal.invariant-loop
invariant-loop l = l.text.items ≡ l.fn.text.items ++ replicate l.counter (byte " ")
