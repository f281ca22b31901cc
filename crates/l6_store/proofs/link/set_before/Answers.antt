use Rattle.std.proofs.Common.{ℕ, set, ap, sym, ◌∙◌, arith}
use Rattle.l6_store.specs.Links.{link_word}
use Rattle.l6_store.proofs.Chains.{with_before_at, with_before_none}
use Rattle.l6_store.proofs.link.set_before.Goals as goal

pub returns-then-place-ne0 : goal.returns-then-place-ne0
returns-then-place-ne0 c =
    c.set_neighbors.ensures
    ∙ ap (λ (after : ℕ). set c.args.words.now c.args.place (link_word c.args.before after))
    c.neighbors_at-after.ensures.after
    ∙ sym (with_before_at c.args.words.now c.args.place c.args.before (omega arith))

pub returns-else-place-ne0 : goal.returns-else-place-ne0
returns-else-place-ne0 c =
    sym (with_before_none c.args.words.now c.args.place c.args.before (omega arith))
