use Rattle.std.proofs.Common.{◌≡◌, ◌++◌, drop}
use Rattle.l6_dap.specs.Variables.{fields_from}
use Rattle.l6_dap.proofs.variables.fields.Given as goal

abbrev pub invariant-loop-definition : goal.invariant-loop-definition
invariant-loop-definition l = record {
  number : l.number ≡ l.definition-index;
  list : l.list.items ++ fields_from l.number (drop l.definition-index l.definitions) ≡ fields_from 0 l.definitions;
}
