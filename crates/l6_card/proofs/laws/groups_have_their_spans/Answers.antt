use Rattle.l6_card.proofs.Spans.{groups_are_at_spans, spans_rise}
use Rattle.l6_card.proofs.laws.groups_have_their_spans.Goals as goal

pub returns-clause-are_prefix : goal.returns-clause-are_prefix
returns-clause-are_prefix c = groups_are_at_spans

pub returns-clause-rise : goal.returns-clause-rise
returns-clause-rise c = spans_rise
