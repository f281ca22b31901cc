use Rattle.std.proofs.Common.{ℕ, min, ap, ◌∙◌, sym, subst}
use Rattle.l6_store.specs.Buddy.{IsListed, taken_out}
use Rattle.l6_store.proofs.Loops.{min_whole}
use Rattle.l6_store.proofs.piece.join_buddy.Goals as goal

pub unlink-requires-clause-there : goal.unlink-requires-clause-there
unlink-requires-clause-there c =
    subst (λ (p : ℕ). IsListed c.args.arena.now.order c.args.level p) (sym c.buddy_of-buddy.ensures)
    c.requires.free

pub returns-clause-place : goal.returns-clause-place
returns-clause-place c =
    c.min.ensures ∙ ap (min c.args.place) c.buddy_of-buddy.ensures
    ∙ min_whole c.args.level c.args.place c.requires.aligned

pub returns-clause-order : goal.returns-clause-order
returns-clause-order c =
    c.unlink.ensures.order ∙ ap (taken_out c.args.arena.now.order c.args.level) c.buddy_of-buddy.ensures
