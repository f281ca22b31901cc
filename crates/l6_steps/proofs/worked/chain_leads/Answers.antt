use Rattle.l6_steps.proofs.Examples.{chain_leads}
use Rattle.l6_steps.proofs.worked.chain_leads.Goals as goal

pub returns : goal.returns
returns c = chain_leads
