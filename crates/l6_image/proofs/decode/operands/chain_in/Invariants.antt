use Rattle.std.proofs.Common.{◌≡◌, ◌++◌, length, drop}
use Rattle.std.specs.List.{take_while}
use Rattle.l6_prog.specs.Chain.{is_name}
use Rattle.l6_image.specs.inner.decode.Fields.{items_in, names_in}
use Rattle.l6_image.proofs.decode.operands.chain_in.Given as goal

-- the names so far, and those after them
abbrev pub invariant-loop-item : goal.invariant-loop-item
invariant-loop-item l = record {
  items : l.item-items ≡ items_in l.fn.word;
  count : length l.names.items ≡ l.item-index;
  names : l.names.items ++ take_while is_name (drop l.item-index l.item-items) ≡ names_in l.fn.word;
}
