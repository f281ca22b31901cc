use Rattle.std.proofs.Common.{◌≡◌, drop, not, ◌||◌}
use Rattle.std.specs.Str.{byte}
use Rattle.l6_word.specs.Split.{lacks}
use Rattle.l6_word.proofs.split.has_line_feed.Given as goal

-- a line feed was found, or is among the bytes that are left, where there is one
abbrev pub invariant-loop-byte : goal.invariant-loop-byte
invariant-loop-byte l =
    (l.is_found || not (lacks (byte "\n") (drop l.byte-index l.block)))
    ≡ not (lacks (byte "\n") l.block)
