use Rattle.l6_session.proofs.LeadingBack.{leads_back}
use Rattle.l6_session.proofs.laws.saved_commands_lead_back.Goals as goal

pub returns : goal.returns
returns g c = leads_back g.S.Places.rule
