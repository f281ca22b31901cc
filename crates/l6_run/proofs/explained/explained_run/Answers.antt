use Rattle.l6_run.proofs.Explaining.{by_deck, on_found}
use Rattle.l6_run.proofs.explained.explained_run.Goals as goal

-- the run under the options is that of the deck's program
pub returns-clause-explains : goal.returns-clause-explains
returns-clause-explains c =
    on_found c.explained_under.result
    (λ found explains.
    by_deck c.args.options c.args.deck.now c.args.input.now c.in_ok-assemble.field-0
    c.into_program-program.result found.0 found.1.items c.requires.deck c.requires.input
    c.in_ok-assemble.ensures.spells.spells c.into_program-program.ensures explains)
    c.explained_under.ensures.explains
