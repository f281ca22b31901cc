use Rattle.std.proofs.Common.{◌≡◌, ◌++◌, take}
use Rattle.std.specs.List.{flat_map}
use Rattle.l6_image.specs.Image.{operation_words}
use Rattle.l6_image.proofs.encode.writing.push_operations.Given as goal

-- the words of the operations so far are written
abbrev pub invariant-loop-operation : goal.invariant-loop-operation
invariant-loop-operation l =
    l.words.items
    ≡ l.fn.words.items ++ flat_map (operation_words l.version) (take l.operation-index l.operations)
