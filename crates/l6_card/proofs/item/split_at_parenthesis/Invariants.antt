use Rattle.std.proofs.Common.{◌≡◌, true, take}
use Rattle.std.specs.Str.{byte}
use Rattle.l6_word.specs.Split.{lacks}
use Rattle.l6_card.proofs.item.split_at_parenthesis.Given as goal

-- no parenthesis is so far
abbrev pub invariant-loop-place : goal.invariant-loop-place
invariant-loop-place l = record {
  no_opening : lacks (byte "(") (take l.place l.body) ≡ true;
  no_closing : lacks (byte ")") (take l.place l.body) ≡ true;
}
