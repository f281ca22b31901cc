use Rattle.std.proofs.Common.{ℕ, length, get_or, Some, sym, ap, ◌∙◌, arith}
use Rattle.l6_store.specs.inner.ArenaLayout.{ArenaLayout}
use Rattle.l6_store.specs.Buddy.{first_of, listed}
use Rattle.l6_store.proofs.Heads.{none_first, some_first}
use Rattle.l6_store.proofs.Arenas.{within}
use Rattle.l6_store.proofs.arena.Arena.first.Goals as goal

pub returns-then-place-eq0 : goal.returns-then-place-eq0
returns-then-place-eq0 c =
    let begins = c.self.invariant.laid.are_lists.links.begun c.args.level in
    sym (ap (λ (l : ArenaLayout). first_of (listed l.order c.args.level)) (sym c.self.view_is)
    ∙ none_first (length c.self.inside.words) _
    (within c.self.inside.units c.self.inside.words c.self.inside.heads
    c.self.inside.place_tags c.self.invariant.laid c.args.level)
    (omega (
      arith,
      begins,
      c.from.ensures,
      ap (λ (level : ℕ). get_or c.self.inside.heads level 0) c.from.ensures,
    )))

pub returns-else-place-eq0 : goal.returns-else-place-eq0
returns-else-place-eq0 c =
    let begins = c.self.invariant.laid.are_lists.links.begun c.args.level in
    let head = ap (λ (level : ℕ). get_or c.self.inside.heads level 0) c.from.ensures in
    ap (λ (p : ℕ). Some p) (head ∙ begins)
    ∙ some_first _ (λ none. absurd (omega (arith, begins, head)))
    ∙ ap (λ (l : ArenaLayout). first_of (listed l.order c.args.level)) c.self.view_is
