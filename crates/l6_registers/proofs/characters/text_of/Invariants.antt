use Rattle.std.proofs.Common.{◌≡◌, map, take}
use Rattle.l6_word.specs.Code.{char_of}
use Rattle.l6_registers.proofs.characters.text_of.Given as goal

-- the characters so far
abbrev pub invariant-loop-code : goal.invariant-loop-code
invariant-loop-code l = l.characters.items ≡ map char_of (take l.code-index l.code-items)
