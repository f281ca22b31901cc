use Rattle.std.proofs.Common.{List, ℕ, ◌∙◌, subst}
use Rattle.l6_group.specs.Character.{spelled}
use Rattle.l6_card.specs.inner.StatementBuilder.{with_characters}
use Rattle.l6_card.specs.inner.KeptBuilder.{Takes, kept_builder}
use Rattle.l6_card.proofs.Characters.{long_word}
use Rattle.l6_card.proofs.builder.StatementBuilder.take_word.Goals as goal

pub returns-in-None-clause-taken : goal.returns-in-None-clause-taken
returns-in-None-clause-taken c =
    let builder = kept_builder c.args.self.now in
    long_word builder.phase c.args.card builder (spelled c.args.columns.now) c.in-None.ensures

pub returns-in-Some-clause-taken : goal.returns-in-Some-clause-taken
returns-in-Some-clause-taken c =
    let builder = kept_builder c.args.self.now in
    subst (λ (cs : List ℕ).
    Takes c.take_characters.result (kept_builder c.take_characters.new.self)
    (with_characters c.args.card builder cs))
    (c.as_slice.ensures ∙ c.in-Some.ensures) c.take_characters.ensures.taken
