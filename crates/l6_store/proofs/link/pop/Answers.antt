use Rattle.std.proofs.Common.{◌≡◌, ℕ, true, List, ◌∷◌, get_or, set, ap, sym, ◌∙◌, subst}
use Rattle.l6_store.specs.Buddy.{has, without}
use Rattle.l6_store.specs.inner.Chains.{after_in, before_in, with_before, words_unlinked}
use Rattle.l6_store.specs.inner.FreeLists.{IsFreeList}
use Rattle.l6_store.proofs.Counts.{has_first}
use Rattle.l6_store.proofs.FreeLists.{unlinked_list, without_first}
use Rattle.l6_store.proofs.Unlinking.{words_unlinked_first, with_head_first}
use Rattle.l6_store.proofs.link.pop.Goals as goal

pub returns-clause-words : goal.returns-clause-words
returns-clause-words c =
    c.set_before.ensures
    ∙ ap (λ (after : ℕ). with_before c.args.words.now after 0) c.neighbors_at-next.ensures.after
    ∙ words_unlinked_first c.args.words.now (get_or c.args.heads.now c.args.level 0) c.requires.first

pub returns-clause-heads : goal.returns-clause-heads
returns-clause-heads c =
    let word : ℕ = get_or c.args.words.now (get_or c.args.heads.now c.args.level 0) 0 in
    ap (set c.args.heads.now c.args.level) c.neighbors_at-next.ensures.after
    ∙ with_head_first c.args.heads.now c.args.level (before_in word) (after_in word) c.requires.first

pub returns-clause-list : goal.returns-clause-list
returns-clause-list c first rest are =
    let place = get_or c.args.heads.now c.args.level 0 in
    let heads : List ℕ = set c.args.heads.now c.args.level c.neighbors_at-next.result.after in
    let same : place ≡ first = are.begun in
    let there : has place (first ∷ rest) ≡ true
    = subst (λ (p : ℕ). has p (first ∷ rest) ≡ true) (sym same) (has_first first rest) in (
      same,
      subst (λ (ps : List ℕ). IsFreeList c.set_before.new.words heads c.args.level ps)
          (ap (λ (p : ℕ). without p (first ∷ rest)) same ∙ without_first first rest)
          (subst (λ (words : List ℕ). IsFreeList words heads c.args.level
          (without place (first ∷ rest))) (sym (returns-clause-words c))
          (subst (λ (heads : List ℕ). IsFreeList (words_unlinked c.args.words.now place) heads
          c.args.level (without place (first ∷ rest))) (sym (returns-clause-heads c))
          (unlinked_list c.args.words.now c.args.heads.now (first ∷ rest) c.args.level place are
          c.requires.small c.requires.level there))),
    )
