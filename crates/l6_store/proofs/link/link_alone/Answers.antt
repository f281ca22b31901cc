use Rattle.std.proofs.Common.{get_or, ◌∙◌}
use Rattle.l6_store.proofs.Chains.{words_linked_alone}
use Rattle.l6_store.proofs.link.link_alone.Goals as goal

pub returns-clause-words : goal.returns-clause-words
returns-clause-words c =
    c.write.ensures
    ∙ words_linked_alone c.args.words.now c.args.place (get_or c.args.heads.now c.args.level 0)
    c.requires.alone
