use Rattle.std.proofs.Common.{ℕ, set, ap, sym, ◌∙◌, arith}
use Rattle.l6_store.specs.Links.{link_word}
use Rattle.l6_store.proofs.Chains.{with_after_at, with_after_none}
use Rattle.l6_store.proofs.Unlinking.{with_head_none, with_head_some}
use Rattle.l6_store.proofs.link.set_after.Goals as goal

pub returns-then-place-eq0-clause-words : goal.returns-then-place-eq0-clause-words
returns-then-place-eq0-clause-words c =
    sym (with_after_none c.args.words.now c.args.place c.args.after (omega arith))

pub returns-then-place-eq0-clause-heads : goal.returns-then-place-eq0-clause-heads
returns-then-place-eq0-clause-heads c =
    ap (λ (level : ℕ). set c.args.heads.now level c.args.after) c.from.ensures
    ∙ sym (with_head_none c.args.heads.now c.args.level c.args.place c.args.after (omega arith))

pub returns-else-place-eq0-clause-words : goal.returns-else-place-eq0-clause-words
returns-else-place-eq0-clause-words c =
    c.set_neighbors.ensures
    ∙ ap (λ (before : ℕ). set c.args.words.now c.args.place (link_word before c.args.after))
    c.neighbors_at-before.ensures.before
    ∙ sym (with_after_at c.args.words.now c.args.place c.args.after (omega arith))

pub returns-else-place-eq0-clause-heads : goal.returns-else-place-eq0-clause-heads
returns-else-place-eq0-clause-heads c =
    sym (with_head_some c.args.heads.now c.args.level c.args.place c.args.after (omega arith))
