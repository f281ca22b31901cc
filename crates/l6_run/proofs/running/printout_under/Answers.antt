use Rattle.std.proofs.Common.{rules}
use Rattle.l6_run.proofs.running.printout_under.Goals as goal

pub returns-clause-prints : goal.returns-clause-prints
returns-clause-prints c = record {
  final = c.run.new.self.configuration.state;
  ends = search rules;
  by_rule = search rules;
  ended = search rules;
  printed = search rules;
}
