use Rattle.std.proofs.Common.{subst}
use Rattle.l6_card.specs.inner.StatementBuilder.{Phase, with_exit}
use Rattle.l6_card.specs.inner.KeptBuilder.{Takes, kept_builder}
use Rattle.l6_card.proofs.builder.StatementBuilder.take_first.Goals as goal

pub returns-clause-taken : goal.returns-clause-taken
returns-clause-taken c =
    let made =
    λ (phase : Phase). with_exit c.args.card (kept_builder c.args.self.now)
    phase c.args.characters.now in
    subst (λ (phase : Phase). Takes c.take_exit.result (kept_builder c.take_exit.new.self) (made phase))
    c.first_phase-phase.ensures c.take_exit.ensures.taken
