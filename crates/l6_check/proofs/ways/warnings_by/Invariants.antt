use Rattle.std.proofs.Common.{◌+◌, ◌≤◌, length}
use Rattle.l6_check.specs.declared.ways.StatementTest.TheVariants.{Condition, Unnamed, Unreached, Trapping, Idle, Running}
use Rattle.l6_check.proofs.WaySteps.{SaysSoFar}
use Rattle.l6_check.proofs.ways.warnings_by.Given as goal

-- the cards that are said so far, with those of the lines that are left, are those of all
abbrev pub invariant-loop-line : goal.invariant-loop-line
invariant-loop-line l = record {
  conditions : SaysSoFar Condition l.ways l.conditions l.number l.card l.rest l.deck;
  unnamed : SaysSoFar Unnamed l.ways l.unnamed l.number l.card l.rest l.deck;
  unreached : SaysSoFar Unreached l.ways l.unreached l.number l.card l.rest l.deck;
  trapping : SaysSoFar Trapping l.ways l.trapping l.number l.card l.rest l.deck;
  idle : SaysSoFar Idle l.ways l.idle l.number l.card l.rest l.deck;
  running : SaysSoFar Running l.ways l.running l.number l.card l.rest l.deck;
  few : l.conditions.count ≤ l.card;
  few_unnamed : l.unnamed.count ≤ l.card;
  few_unreached : l.unreached.count ≤ l.card;
  few_trapping : l.trapping.count ≤ l.card;
  few_idle : l.idle.count ≤ l.card;
  few_running : l.running.count ≤ l.card;
  numbers : l.card + length l.rest ≤ length l.deck;
  below : l.number ≤ l.card;
}

abbrev pub decreases-loop-line : goal.decreases-loop-line
decreases-loop-line l = length l.rest
