use Rattle.std.proofs.Common.{rules}
use Rattle.l6_run.proofs.explained.explained_under.Goals as goal

pub returns-clause-explains : goal.returns-clause-explains
returns-clause-explains c = record {
  run = record {
    final = c.run.new.self.configuration.state;
    ends = search rules;
    by_rule = search rules;
    ended = search rules;
    printed = search rules;
  };
  why = search rules;
}
