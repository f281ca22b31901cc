use Rattle.std.proofs.Common.{◌≡◌, None}
use Rattle.std.specs.Option.{option_map}
use Rattle.l6_session.specs.Texts.{nearest_from}
use Rattle.l6_session.proofs.text.nearest_label.Given as goal

-- the answer is that of the labels that are left, and of what is found so far
abbrev pub invariant-loop-label : goal.invariant-loop-label
invariant-loop-label l =
    nearest_from (option_map (λ found. (found.0.now, found.1)) l.nearest) l.statement l.label-iterator
    ≡ nearest_from None l.statement l.labels.entries
