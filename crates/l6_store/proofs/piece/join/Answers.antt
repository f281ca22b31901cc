use Rattle.std.proofs.Common.{◌≡◌, ◌-◌, ap, ◌∙◌, arith, inl, inr}
use Rattle.std.proofs.lemmas.Bool.{cases_lt}
use Rattle.std.proofs.lemmas.Nat.{pow_pos}
use Rattle.l6_word.specs.Numerals.{largest_level}
use Rattle.l6_store.specs.Buddy.{DetachedPiece, joined_often, put_back}
use Rattle.l6_store.proofs.Detached.{detached_beside, detached_unlisted}
use Rattle.l6_store.proofs.Loops.{joins_first, joins_full, joins_alone}
use Rattle.l6_store.proofs.piece.join.Goals as goal

pub join_often-requires-clause-free : goal.join_often-requires-clause-free
join_often-requires-clause-free c = c.may_join.ensures.free c.if-may_join.true

pub link-requires-clause-fresh : goal.link-requires-clause-fresh
link-requires-clause-fresh c = λ k is.
    detached_unlisted c.args.arena.now.units c.args.arena.now.blocks
    (record { order = c.args.arena.now.order; level = c.args.level; place = c.args.place })
    c.requires.held.holds k c.args.place (omega arith) (omega (arith, pow_pos c.args.level)) is

pub link-requires-clause-beside : goal.link-requires-clause-beside
link-requires-clause-beside c = λ lies.
    detached_beside c.args.arena.now.units c.args.arena.now.blocks
    (record { order = c.args.arena.now.order; level = c.args.level; place = c.args.place })
    c.requires.held.holds c.args.place (omega arith) (omega (arith, pow_pos c.args.level)) lies

-- the piece is joined no time
alone : (c : goal.After-link) → ◌≡◌ {A = DetachedPiece}
    (record { order = c.args.arena.now.order; level = c.args.level; place = c.args.place })
    (joined_often (largest_level - c.args.level)
    (record { order = c.args.arena.now.order; level = c.args.level; place = c.args.place }))
alone c =
    let first : DetachedPiece
    = record { order = c.args.arena.now.order; level = c.args.level; place = c.args.place } in
    let joins = joins_first c.args.arena.now.units c.args.arena.now.blocks first c.requires.held in
    elim (cases_lt c.args.level largest_level)
    as (λ _. first ≡ joined_often (largest_level - c.args.level) first) [
      | inl below ↦
          joins_alone c.args.arena.now.units c.args.arena.now.blocks c.args.level first first 0
          (c.may_join.ensures.alone c.if-may_join.false below) joins
      | inr full ↦
          joins_full c.args.arena.now.units c.args.arena.now.blocks c.args.level first first 0
          full joins
    ]

pub returns-else-may_join-clause-order : goal.returns-else-may_join-clause-order
returns-else-may_join-clause-order c = c.link.ensures.order ∙ ap put_back (alone c)

pub returns-else-may_join-clause-moves : goal.returns-else-may_join-clause-moves
returns-else-may_join-clause-moves c =
    let level = ap (λ (h : DetachedPiece). h.level) (alone c) in
    omega (arith, level)
