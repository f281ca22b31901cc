use Rattle.std.proofs.Common.{◌≡◌, ◌++◌, length, reverse}
use Rattle.std.specs.List.{flat_map}
use Rattle.l6_session.specs.Texts.{definition_line}
use Rattle.l6_session.proofs.calls.push_definitions.Given as goal

-- the text so far, with the lines of the definitions that are left, is that of all definitions
abbrev pub invariant-loop-definition : goal.invariant-loop-definition
invariant-loop-definition l =
    l.text.items ++ flat_map definition_line (reverse l.rest)
    ≡ l.fn.text.items ++ flat_map definition_line (reverse l.definitions)

abbrev pub decreases-loop-definition : goal.decreases-loop-definition
decreases-loop-definition l = length l.rest
