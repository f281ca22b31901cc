use Rattle.l6_steps.proofs.Lasting.{last_found}
use Rattle.l6_steps.proofs.laws.runs_have_a_last_state.Goals as goal

pub returns : goal.returns
returns c = last_found
