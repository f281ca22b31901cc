use Rattle.std.proofs.Common.{◌≡◌, ◌++◌, take, drop}
use Rattle.l6_card.specs.Card.{run_of, following_run}
use Rattle.l6_card.proofs.card.split_label.Given as goal

-- the columns so far and the run of what is left are the whole run, and what follows it is the same
abbrev pub invariant-loop-place : goal.invariant-loop-place
invariant-loop-place l = record {
  label : take l.place l.columns ++ run_of (drop l.place l.columns) ≡ run_of l.columns;
  body : following_run (drop l.place l.columns) ≡ following_run l.columns;
}
