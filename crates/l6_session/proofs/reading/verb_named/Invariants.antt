use Rattle.std.proofs.Common.{◌≡◌, length}
use Rattle.l6_session.specs.Command.{named_among, verbs}
use Rattle.l6_session.proofs.reading.verb_named.Given as goal

-- the answer is that of the commands that are left
abbrev pub invariant-loop-verb : goal.invariant-loop-verb
invariant-loop-verb l = named_among l.rest l.word ≡ named_among verbs l.word

abbrev pub decreases-loop-verb : goal.decreases-loop-verb
decreases-loop-verb l = length l.rest
