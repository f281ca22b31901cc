use Rattle.std.proofs.Common.{◌≡◌, ◌++◌, length, reverse}
use Rattle.std.specs.List.{flat_map}
use Rattle.l6_session.specs.Texts.{content_line}
use Rattle.l6_session.proofs.calls.push_contents.Given as goal

-- the text so far, with the lines of the contents that are left, is that of all contents
abbrev pub invariant-loop-content : goal.invariant-loop-content
invariant-loop-content l =
    l.text.items ++ flat_map content_line (reverse l.rest)
    ≡ l.fn.text.items ++ flat_map content_line (reverse l.contents)

abbrev pub decreases-loop-content : goal.decreases-loop-content
decreases-loop-content l = length l.rest
