use Rattle.l6_steps.proofs.Numbered.{ends_in_one_state}
use Rattle.l6_steps.proofs.Run.{rules_run_by_steps}
use Rattle.l6_steps.proofs.Tiled.{buddy_by_steps}
use Rattle.l6_steps.proofs.Taking.{ends_under_each_rule}
use Rattle.l6_steps.proofs.laws.runs_are_determined.Goals as goal

pub returns : goal.returns
returns c = record {
  one_end = ends_in_one_state;
  by_steps = rules_run_by_steps;
  by_buddies = buddy_by_steps;
  each_rule = ends_under_each_rule;
}
