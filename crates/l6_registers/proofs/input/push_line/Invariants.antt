use Rattle.std.proofs.Common.{◌≡◌, ◌++◌, map, take}
use Rattle.l6_word.specs.Code.{input_code}
use Rattle.l6_registers.proofs.input.push_line.Given as goal

-- the codes so far
abbrev pub invariant-loop-byte : goal.invariant-loop-byte
invariant-loop-byte l =
    l.codes.items ≡ l.fn.codes.items ++ map input_code (take l.byte-index l.byte-items)
