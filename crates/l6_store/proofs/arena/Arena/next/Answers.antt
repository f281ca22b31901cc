use Rattle.std.proofs.Common.{◌≡◌, ℕ, true, List, length, get_or, Some, unwrap_or, sym, ap, ◌∙◌, arith}
use Rattle.l6_store.specs.Buddy.{has, listed, next_in}
use Rattle.l6_store.specs.inner.ArenaLayout.{ArenaLayout, IsArena}
use Rattle.l6_store.specs.inner.Chains.{after_in, order_of}
use Rattle.l6_store.specs.declared.place_tag.PlaceTag.{PlaceTag}
use Rattle.l6_store.proofs.Arenas.{places_small, within}
use Rattle.l6_store.proofs.NextPlaces.{next_absent, next_is, next_linked, next_none, next_past, next_some}
use Rattle.l6_store.proofs.arena.Arena.next.Goals as goal
use Rattle.l6_store.proofs.arena.Arena.next.Goals.{then-end_of-place-via-then-end_of-place, then-end_of-place-via-else-end_of-place+then-not-is_listed}

pub returns-then-end_of-place : goal.returns-then-end_of-place
returns-then-end_of-place c =
    elim c.then-end_of-place.branch [
      | then-end_of-place-via-then-end_of-place w ↦
          sym (ap (λ (l : ArenaLayout). next_in c.args.place (listed l.order c.args.level))
          (sym c.self.view_is)
          ∙ next_past (length c.self.inside.words) c.args.place _
          (within c.self.inside.units c.self.inside.words c.self.inside.heads
          c.self.inside.place_tags c.self.invariant.laid c.args.level)
          (omega (arith, c.self.invariant.laid.filled, c.end_of.ensures, w.if-end_of-place.true)))
      | then-end_of-place-via-else-end_of-place+then-not-is_listed w ↦
          sym (next_absent c.args.place _ (sym w.is_listed.ensures ∙ w.if-not-is_listed.true))
    ]

-- the link of a listed place has the next one, or 0
linked : (units : ℕ) (words heads : List ℕ) (place_tags : List PlaceTag)
    (laid : IsArena units words place_tags heads) (level place next : ℕ)
    → has place (listed (order_of words heads) level) ≡ true
    → next ≡ after_in (get_or words place 0)
    → next ≡ unwrap_or (next_in place (listed (order_of words heads) level)) 0
linked units words heads place_tags laid level place next is link =
    link
    ∙ next_linked words 0 place (listed (order_of words heads) level)
    (within units words heads place_tags laid level)
    (omega (arith, laid.filled, places_small units laid.most)) is
    (laid.are_lists.links.linked level)

pub returns-then-next-eq0 : goal.returns-then-next-eq0
returns-then-next-eq0 c =
    let units = c.self.inside.units in
    let words = c.self.inside.words in
    let heads = c.self.inside.heads in
    let place_tags = c.self.inside.place_tags in
    let is : has c.args.place (listed (order_of words heads) c.args.level) ≡ true
    = ap (λ (l : ArenaLayout). has c.args.place (listed l.order c.args.level)) c.self.view_is
    ∙ sym c.is_listed.ensures ∙ c.if-not-is_listed.false in
    let at = linked units words heads place_tags c.self.invariant.laid c.args.level c.args.place
    c.neighbors_at-next.result.after is c.neighbors_at-next.ensures.after in
    sym (ap (λ (l : ArenaLayout). next_in c.args.place (listed l.order c.args.level))
    (sym c.self.view_is)
    ∙ next_none (length words) (listed (order_of words heads) c.args.level) _
    (within units words heads place_tags c.self.invariant.laid c.args.level)
    (next_is c.args.place _) (sym at ∙ c.if-next-eq0.true))

pub returns-else-next-eq0 : goal.returns-else-next-eq0
returns-else-next-eq0 c =
    let units = c.self.inside.units in
    let words = c.self.inside.words in
    let heads = c.self.inside.heads in
    let place_tags = c.self.inside.place_tags in
    let is : has c.args.place (listed (order_of words heads) c.args.level) ≡ true
    = ap (λ (l : ArenaLayout). has c.args.place (listed l.order c.args.level)) c.self.view_is
    ∙ sym c.is_listed.ensures ∙ c.if-not-is_listed.false in
    let at = linked units words heads place_tags c.self.invariant.laid c.args.level c.args.place
    c.neighbors_at-next.result.after is c.neighbors_at-next.ensures.after in
    ap (λ (p : ℕ). Some p) at
    ∙ next_some _ (λ none. c.if-next-eq0.false (at ∙ none))
    ∙ ap (λ (l : ArenaLayout). next_in c.args.place (listed l.order c.args.level)) c.self.view_is
