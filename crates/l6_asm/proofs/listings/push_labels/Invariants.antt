use Rattle.std.proofs.Common.{◌≡◌, ◌++◌}
use Rattle.std.specs.List.{flat_map}
use Rattle.l6_asm.specs.Listing.{label_line}
use Rattle.l6_asm.proofs.listings.push_labels.Given as goal

-- the text so far, with the lines of the labels that are left, is that of all labels
abbrev pub invariant-loop-label : goal.invariant-loop-label
invariant-loop-label l =
    l.text.items ++ flat_map label_line l.label-iterator
    ≡ l.fn.text.items ++ flat_map label_line l.labels.entries
