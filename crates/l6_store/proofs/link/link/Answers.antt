use Rattle.std.proofs.Common.{ℕ, List, ◌∷◌, get_or, set, ap, sym, ◌∙◌, subst}
use Rattle.l6_store.specs.inner.Chains.{words_linked}
use Rattle.l6_store.specs.inner.FreeLists.{IsFreeList}
use Rattle.l6_store.proofs.Chains.{words_linked_by}
use Rattle.l6_store.proofs.FreeLists.{linked_list}
use Rattle.l6_store.proofs.link.link.Goals as goal

pub returns-clause-words : goal.returns-clause-words
returns-clause-words c =
    words_linked_by c.args.words.now c.set_neighbors.new.words c.set_before.new.words c.args.place
    (get_or c.args.heads.now c.from.result 0) c.set_neighbors.ensures c.set_before.ensures
    ∙ ap (λ (level : ℕ). words_linked c.args.words.now c.args.place
    (get_or c.args.heads.now level 0)) c.from.ensures

pub returns-clause-list : goal.returns-clause-list
returns-clause-list c places are fresh =
    subst (λ (words : List ℕ). IsFreeList words (set c.args.heads.now c.from-2.result c.args.place)
    c.args.level (c.args.place ∷ places)) (sym (returns-clause-words c))
    (subst (λ (level : ℕ). IsFreeList
    (words_linked c.args.words.now c.args.place (get_or c.args.heads.now c.args.level 0))
    (set c.args.heads.now level c.args.place) c.args.level (c.args.place ∷ places))
    (sym c.from-2.ensures)
    (linked_list c.args.words.now c.args.heads.now places c.args.level c.args.place are
    c.requires.small c.requires.level c.requires.some c.requires.place fresh))
