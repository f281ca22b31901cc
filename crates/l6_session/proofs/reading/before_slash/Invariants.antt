use Rattle.l6_session.proofs.Slashes.{Before}
use Rattle.l6_session.proofs.reading.before_slash.Given as goal

-- no slash so far
abbrev pub invariant-loop-index : goal.invariant-loop-index
invariant-loop-index l = Before l.word l.index
