use Rattle.std.proofs.Common.{◌≡◌, ℕ, ◌+◌, ◌-◌, sym, ap, ◌∙◌, subst, arith, inl, inr}
use Rattle.std.proofs.lemmas.Bool.{cases_lt}
use Rattle.std.proofs.lemmas.Nat.{pow_pos}
use Rattle.l6_word.specs.Numerals.{largest_level}
use Rattle.l6_store.specs.Blocks.{Blocks, LiesIn, IsAlignedPlace}
use Rattle.l6_store.specs.Buddy.{DetachedPiece, joined_often, put_back}
use Rattle.l6_store.proofs.Detached.{detached_beside, detached_unlisted}
use Rattle.l6_store.proofs.Loops.{joins_first, joins_full, joins_alone, joins_step}
use Rattle.l6_store.proofs.piece.join_often.Goals as goal

-- it was joined no time
none : (level : ℕ) → 0 ≡ level - level
none level = omega arith

pub loop-arena-init : goal.loop-arena-init
loop-arena-init c =
    let first : DetachedPiece
    = record { order = c.args.arena.now.order; level = c.args.level; place = c.args.place } in (
      record {
        units = c.join_buddy-place.ensures.units;
        blocks = c.join_buddy-place.ensures.blocks;
        sound = c.join_buddy-place.ensures.sound;
      },
      joins_step c.args.arena.now.units c.args.arena.now.blocks c.args.level first first 0
          (c.args.level + 1 - c.args.level) c.join_buddy-place.new.arena.order c.join_buddy-place.result
          c.requires.free.0 c.requires.free.1 c.join_buddy-place.ensures.order c.join_buddy-place.ensures.place
          (omega arith)
          (joins_first c.args.arena.now.units c.args.arena.now.blocks first c.requires.held),
    )

pub may_join-requires : goal.may_join-requires
may_join-requires c =
    subst (λ (units : ℕ). IsAlignedPlace units c.loop-arena.now c.loop-arena.place)
    (sym c.loop-arena.invariant.0.units) c.loop-arena.invariant.1.is_detached.holds.is_aligned

pub join_buddy-place-requires-clause-aligned : goal.join_buddy-place-requires-clause-aligned
join_buddy-place-requires-clause-aligned c = c.requires.held.holds.is_aligned.aligned

pub join_buddy-place-requires-in-loop-arena-clause-aligned : goal.join_buddy-place-requires-in-loop-arena-clause-aligned
join_buddy-place-requires-in-loop-arena-clause-aligned c =
    c.loop-arena.invariant.1.is_detached.holds.is_aligned.aligned

pub loop-arena-preserved : goal.loop-arena-preserved
loop-arena-preserved c =
    let was = c.loop-arena.invariant in
    let now : DetachedPiece
    = record { order = c.loop-arena.arena.order; level = c.loop-arena.now; place = c.loop-arena.place } in
    let first : DetachedPiece
    = record { order = c.args.arena.now.order; level = c.args.level; place = c.args.place } in
    let free = c.may_join.ensures.free c.loop-arena-test.true in (
      record {
        units = c.join_buddy-place-in-loop-arena.ensures.units ∙ was.0.units;
        blocks = c.join_buddy-place-in-loop-arena.ensures.blocks ∙ was.0.blocks;
        sound = c.join_buddy-place-in-loop-arena.ensures.sound;
      },
      joins_step c.args.arena.now.units c.args.arena.now.blocks c.args.level first now
          (c.loop-arena.now - c.args.level) (c.loop-arena.now + 1 - c.args.level)
          c.join_buddy-place-in-loop-arena.new.arena.order c.join_buddy-place-in-loop-arena.result free.0 free.1
          c.join_buddy-place-in-loop-arena.ensures.order c.join_buddy-place-in-loop-arena.ensures.place
          (omega (arith, was.1.counted)) was.1,
    )

pub link-requires-clause-fresh : goal.link-requires-clause-fresh
link-requires-clause-fresh c = λ k is.
    detached_unlisted c.args.arena.now.units c.args.arena.now.blocks
    (record { order = c.loop-arena.arena.order; level = c.loop-arena.now; place = c.loop-arena.place })
    c.loop-arena.invariant.1.is_detached.holds k c.loop-arena.place (omega arith)
    (omega (arith, pow_pos c.loop-arena.now)) is

pub link-requires-clause-beside : goal.link-requires-clause-beside
link-requires-clause-beside c = λ lies.
    detached_beside c.args.arena.now.units c.args.arena.now.blocks
    (record { order = c.loop-arena.arena.order; level = c.loop-arena.now; place = c.loop-arena.place })
    c.loop-arena.invariant.1.is_detached.holds c.loop-arena.place (omega arith)
    (omega (arith, pow_pos c.loop-arena.now))
    (subst (λ (b : Blocks). LiesIn b c.loop-arena.place) c.loop-arena.invariant.0.blocks lies)

-- the detached piece is joined as often as it may be
done : (c : goal.After-from)
    → ◌≡◌ {A = DetachedPiece}
    (record { order = c.loop-arena.arena.order; level = c.loop-arena.now; place = c.loop-arena.place })
    (joined_often (largest_level - c.args.level)
    (record { order = c.args.arena.now.order; level = c.args.level; place = c.args.place }))
done c =
    let now : DetachedPiece
    = record { order = c.loop-arena.arena.order; level = c.loop-arena.now; place = c.loop-arena.place } in
    let first : DetachedPiece
    = record { order = c.args.arena.now.order; level = c.args.level; place = c.args.place } in
    elim (cases_lt c.loop-arena.now largest_level)
    as (λ _. now ≡ joined_often (largest_level - c.args.level) first) [
      | inl below ↦
          joins_alone c.args.arena.now.units c.args.arena.now.blocks c.args.level first now
          (c.loop-arena.now - c.args.level)
          (c.may_join.ensures.alone c.loop-arena-test.false below) c.loop-arena.invariant.1
      | inr full ↦
          joins_full c.args.arena.now.units c.args.arena.now.blocks c.args.level first now
          (c.loop-arena.now - c.args.level) full c.loop-arena.invariant.1
    ]

pub returns-clause-order : goal.returns-clause-order
returns-clause-order c = c.link.ensures.order ∙ ap put_back (done c)

pub returns-clause-moves : goal.returns-clause-moves
returns-clause-moves c =
    let level = ap (λ (h : DetachedPiece). h.level) (done c) in
    omega (arith, c.loop-arena.invariant.1.counted, c.from.ensures, level)
