use Rattle.std.proofs.Common.{◌≡◌, ◌+◌, ◌++◌, drop}
use Rattle.l6_prog.specs.Numerals.{first_letter}
use Rattle.l6_dap.specs.Variables.{bugs_from}
use Rattle.l6_dap.proofs.variables.bugs.Given as goal

abbrev pub invariant-loop-word : goal.invariant-loop-word
invariant-loop-word l = record {
  number : l.number ≡ first_letter + l.word-index;
  list : l.list.items ++ bugs_from l.number (drop l.word-index l.words) ≡ bugs_from first_letter l.words;
}
