use Rattle.std.proofs.Common.{◌≡◌, ◌+◌, ◌≤◌, ◌++◌, length}
use Rattle.std.specs.Vec.{vec_capacity}
use Rattle.l6_asm.specs.declared.line.TheConstants.{MAX_LINE_BYTES}
use Rattle.l6_asm.proofs.card_lines.CardLines.fill.Given as goal

-- the text so far, with the lines that are left, is that of all lines, and there is room for one
abbrev pub invariant-loop-text : goal.invariant-loop-text
invariant-loop-text l = record {
  lines : l.fn.text.items ++ l.fn.self ≡ l.text.items ++ l.self;
  fewer : length l.self ≤ length l.fn.self;
  capacity : vec_capacity l.fn.text ≤ vec_capacity l.text;
  room : length l.text.items + MAX_LINE_BYTES ≤ vec_capacity l.text;
}

abbrev pub decreases-loop-text : goal.decreases-loop-text
decreases-loop-text l = length l.self
