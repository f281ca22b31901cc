use Rattle.std.proofs.Common.{take}
use Rattle.l6_trace.specs.Judging.{IsJudged}
use Rattle.l6_trace.proofs.judging.judge_lines.Given as goal

-- the lines before the index are judged, and led here
abbrev pub invariant-loop-index : goal.invariant-loop-index
invariant-loop-index l = IsJudged l.fn.judge (take l.index l.lines) l.founds.items l.judge
