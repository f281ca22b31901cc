use Rattle.std.proofs.Common.{◌≡◌, ◌∙◌, length, get_or, set, ap, sym, subst, arith, List, ℕ}
use Rattle.l6_store.specs.Buddy.{without}
use Rattle.l6_store.specs.inner.Chains.{before_in, after_in, with_head, words_unlinked}
use Rattle.l6_store.specs.inner.FreeLists.{IsFreeList}
use Rattle.l6_store.proofs.FreeLists.{unlinked_list}
use Rattle.l6_store.proofs.Unlinking.{with_head_first, words_unlinked_alone, words_unlinked_by}
use Rattle.l6_store.proofs.Chains.{length_with_after}
use Rattle.l6_store.proofs.link.unlink.Goals as goal

pub set_before-requires-clause-place : goal.set_before-requires-clause-place
set_before-requires-clause-place c =
    omega (
      arith,
      ap (λ (ws : List ℕ). length ws) c.set_after.ensures.words,
      length_with_after c.args.words.now c.neighbors_at-neighbors.result.before
          c.neighbors_at-neighbors.result.after,
      c.neighbors_at-neighbors.ensures.after,
    )

pub returns-clause-words : goal.returns-clause-words
returns-clause-words c =
    words_unlinked_by c.args.words.now c.set_after.new.words c.set_before.new.words c.args.place
    c.neighbors_at-neighbors.result.before c.neighbors_at-neighbors.result.after
    c.neighbors_at-neighbors.ensures.before c.neighbors_at-neighbors.ensures.after
    c.set_after.ensures.words c.set_before.ensures

heads_are : (c : goal.After-set_before)
    → c.set_after.new.heads
    ≡ with_head c.args.heads.now c.args.level (before_in (get_or c.args.words.now c.args.place 0))
    (after_in (get_or c.args.words.now c.args.place 0))
heads_are c =
    c.set_after.ensures.heads
    ∙ ap (λ (b : ℕ). with_head c.args.heads.now c.args.level b
    c.neighbors_at-neighbors.result.after)
    c.neighbors_at-neighbors.ensures.before
    ∙ ap (with_head c.args.heads.now c.args.level (before_in (get_or c.args.words.now c.args.place 0)))
    c.neighbors_at-neighbors.ensures.after

pub returns-clause-list : goal.returns-clause-list
returns-clause-list c places are is =
    subst (λ (words : List ℕ). IsFreeList words c.set_after.new.heads c.args.level
    (without c.args.place places)) (sym (returns-clause-words c))
    (subst (λ (heads : List ℕ). IsFreeList (words_unlinked c.args.words.now c.args.place) heads
    c.args.level (without c.args.place places)) (sym (heads_are c))
    (unlinked_list c.args.words.now c.args.heads.now places c.args.level c.args.place are
    c.requires.small c.requires.level is))

-- a place that is alone
alone : (c : goal.After-from) → get_or c.args.words.now c.args.place 0 ≡ 0
alone c = sym c.read.ensures.value ∙ c.if-read-eq0.true

pub returns-then-read-eq0-clause-words : goal.returns-then-read-eq0-clause-words
returns-then-read-eq0-clause-words c = words_unlinked_alone c.args.words.now c.args.place (alone c)

pub returns-then-read-eq0-clause-heads : goal.returns-then-read-eq0-clause-heads
returns-then-read-eq0-clause-heads c =
    let word : ℕ = get_or c.args.words.now c.args.place 0 in
    ap (λ (level : ℕ). set c.args.heads.now level 0) c.from.ensures
    ∙ ap (set c.args.heads.now c.args.level) (sym (ap after_in (alone c)))
    ∙ with_head_first c.args.heads.now c.args.level (before_in word) (after_in word)
    (ap before_in (alone c))

pub returns-then-read-eq0-clause-list : goal.returns-then-read-eq0-clause-list
returns-then-read-eq0-clause-list c places are is =
    subst (λ (words : List ℕ). IsFreeList words (set c.args.heads.now c.from.result 0) c.args.level
    (without c.args.place places)) (sym (returns-then-read-eq0-clause-words c))
    (subst (λ (heads : List ℕ). IsFreeList (words_unlinked c.args.words.now c.args.place) heads
    c.args.level (without c.args.place places)) (sym (returns-then-read-eq0-clause-heads c))
    (unlinked_list c.args.words.now c.args.heads.now places c.args.level c.args.place are
    c.requires.small c.requires.level is))
