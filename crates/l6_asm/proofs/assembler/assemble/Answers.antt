use Rattle.l6_asm.proofs.Settling.{shows_assembly, shows_fault}
use Rattle.l6_asm.proofs.assembler.assemble.Goals as goal

pub returns-clause-refuses : goal.returns-clause-refuses
returns-clause-refuses c =
    shows_fault c.args.deck.now c.in_ok-cards.cards c.assembly_of.result c.in_ok-cards.ensures.reads
    c.assembly_of.ensures

pub returns-clause-spells : goal.returns-clause-spells
returns-clause-spells c =
    shows_assembly c.args.deck.now c.in_ok-cards.cards c.assembly_of.result
    c.in_ok-cards.ensures.reads c.assembly_of.ensures
