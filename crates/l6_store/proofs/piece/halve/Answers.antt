use Rattle.std.proofs.Common.{◌≡◌, ℕ, suc, ◌+◌, ◌-◌, ◌/◌, ◌^◌, ◌<◌, ◌∷◌, refl, sym, ap, ◌∙◌, subst, arith}
use Rattle.std.proofs.lemmas.Nat.{one_shl, pow_below}
use Rattle.l6_store.specs.Blocks.{Blocks, LiesIn}
use Rattle.l6_store.specs.Rule.{Order}
use Rattle.l6_store.specs.Buddy.{DetachedPiece, IsListed, in_front, listed}
use Rattle.l6_store.specs.inner.Detached.{HalvesPiece, IsDetached}
use Rattle.l6_store.proofs.Detached.{detached_beside, detached_unlisted}
use Rattle.l6_store.proofs.Loops.{halves_first, halves_more, halves_done}
use Rattle.l6_store.proofs.Counts.{listed_other}
use Rattle.l6_store.proofs.Multiples.{double}
use Rattle.l6_store.proofs.piece.halve.Goals as goal

-- it was halved no time
none : (level : ℕ) → 0 ≡ level - level
none level = omega arith

pub loop-now-init : goal.loop-now-init
loop-now-init c = (
  record { units = refl; blocks = refl; sound = c.requires.sound },
  subst (λ (moves : ℕ). HalvesPiece c.args.arena.now.units c.args.arena.now.blocks c.args.level
      c.args.from
      (record { order = c.args.arena.now.order; level = c.args.from; place = c.args.place })
      (record { order = c.args.arena.now.order; level = c.args.from; place = c.args.place }) moves)
      (none c.args.from)
      (halves_first c.args.arena.now.units c.args.arena.now.blocks c.args.level
      (record { order = c.args.arena.now.order; level = c.args.from; place = c.args.place })
      c.requires.enough c.requires.held),
  c.requires.least,
  one_shl c.args.from 32 (omega (arith, c.requires.held.holds.is_aligned.small)),
)

-- half as many words
half : (size level : ℕ) → size ≡ 2 ^ level → 0 < level → size / 2 ≡ 2 ^ (level - 1)
half size level is some =
    let next : level ≡ suc (level - 1) = omega arith in
    let whole : 2 ^ level ≡ 2 ^ suc (level - 1) = ap (λ (k : ℕ). 2 ^ k) next in
    omega (arith, is, whole, double (level - 1))

-- where the upper half begins
upper : (c : goal.After-link_alone-arg-1)
    → c.args.place + c.loop-now.size / 2
    ≡ c.args.place + 2 ^ (c.loop-now.now - 1)
upper c =
    ap (λ (size : ℕ). c.args.place + size)
    (half c.loop-now.size c.loop-now.now c.loop-now.invariant.3 (omega arith))

pub link_alone-requires-clause-alone : goal.link_alone-requires-clause-alone
link_alone-requires-clause-alone c =
    c.loop-now.invariant.2 (c.loop-now.now - 1) (omega (arith, c.loop-now-test.true)) (omega arith)

pub link_alone-requires-clause-fresh : goal.link_alone-requires-clause-fresh
link_alone-requires-clause-fresh c = λ k is.
    detached_unlisted c.args.arena.now.units c.args.arena.now.blocks
    (record { order = c.loop-now.arena.order; level = c.loop-now.now; place = c.args.place })
    c.loop-now.invariant.1.is_detached.holds k (c.args.place + 2 ^ (c.loop-now.now - 1))
    (omega arith)
    (omega (arith, pow_below (c.loop-now.now - 1) c.loop-now.now (omega arith)))
    (subst (λ (p : ℕ). IsListed c.loop-now.arena.order k p) (upper c) is)

pub link_alone-requires-clause-beside : goal.link_alone-requires-clause-beside
link_alone-requires-clause-beside c = λ lies.
    detached_beside c.args.arena.now.units c.args.arena.now.blocks
    (record { order = c.loop-now.arena.order; level = c.loop-now.now; place = c.args.place })
    c.loop-now.invariant.1.is_detached.holds (c.args.place + 2 ^ (c.loop-now.now - 1))
    (omega arith)
    (omega (arith, pow_below (c.loop-now.now - 1) c.loop-now.now (omega arith)))
    (subst (λ (p : ℕ). LiesIn c.args.arena.now.blocks p) (upper c)
    (subst (λ (b : Blocks). LiesIn b (c.args.place + c.loop-now.size / 2))
    c.loop-now.invariant.0.blocks lies))

pub loop-now-preserved : goal.loop-now-preserved
loop-now-preserved c =
    let was = c.loop-now.invariant in
    let more : c.args.from - c.loop-now.now + 1 ≡ c.args.from - (c.loop-now.now - 1)
    = omega (arith, was.1.counted, c.loop-now-test.true) in
    let halved : c.loop-now.size / 2 ≡ 2 ^ (c.loop-now.now - 1)
    = half c.loop-now.size c.loop-now.now was.3 (omega (arith, c.loop-now-test.true)) in
    let size : c.args.place + c.loop-now.size / 2 ≡ c.args.place + 2 ^ (c.loop-now.now - 1)
    = ap (λ (size : ℕ). c.args.place + size) halved in
    let order : c.link_alone.new.self.order
    ≡ in_front c.loop-now.arena.order (c.loop-now.now - 1)
    (c.args.place + 2 ^ (c.loop-now.now - 1))
    = c.link_alone.ensures.order
    ∙ ap (in_front c.loop-now.arena.order (c.loop-now.now - 1)) size in (
      record {
        units = c.link_alone.ensures.units ∙ was.0.units;
        blocks = c.link_alone.ensures.blocks ∙ was.0.blocks;
        sound = c.link_alone.ensures.sound;
      },
      subst (λ (o : Order). HalvesPiece c.args.arena.now.units c.args.arena.now.blocks c.args.level
          c.args.from (record {
            order = c.args.arena.now.order;
            level = c.args.from;
            place =
                c.args.place;
          })
          (record { order = o; level = c.loop-now.now - 1; place = c.args.place })
          (c.args.from - (c.loop-now.now - 1))) (sym order)
          (subst (λ (moves : ℕ). HalvesPiece c.args.arena.now.units c.args.arena.now.blocks
          c.args.level c.args.from
          (record { order = c.args.arena.now.order; level = c.args.from; place = c.args.place })
          (record {
            order = in_front c.loop-now.arena.order (c.loop-now.now - 1)
                (c.args.place + 2 ^ (c.loop-now.now - 1));
            level = c.loop-now.now - 1;
            place = c.args.place;
          }) moves) more
          (halves_more c.args.arena.now.units c.args.arena.now.blocks c.args.level c.args.from
          (record { order = c.args.arena.now.order; level = c.args.from; place = c.args.place })
          (record { order = c.loop-now.arena.order; level = c.loop-now.now; place = c.args.place })
          (c.args.from - c.loop-now.now) c.loop-now-test.true was.1)),
      λ k from before.
          ap (λ (o : Order). listed o k) c.link_alone.ensures.order
          ∙ listed_other c.loop-now.arena.order (c.loop-now.now - 1) k
          ((c.args.place + c.loop-now.size / 2)
          ∷ listed c.loop-now.arena.order (c.loop-now.now - 1)) (λ same. absurd (omega (arith, before, same)))
          ∙ was.2 k from (omega (arith, before)),
      halved,
    )

pub returns-clause-order : goal.returns-clause-order
returns-clause-order c =
    ap (λ (h : DetachedPiece). h.order)
    (halves_done c.args.arena.now.units c.args.arena.now.blocks c.args.level c.args.from
    (record { order = c.args.arena.now.order; level = c.args.from; place = c.args.place })
    (record { order = c.loop-now.arena.order; level = c.loop-now.now; place = c.args.place })
    (c.args.from - c.loop-now.now) c.loop-now-test.false c.loop-now.invariant.1)

pub returns-clause-held : goal.returns-clause-held
returns-clause-held c =
    let last : c.loop-now.now ≡ c.args.level
    = omega (arith, c.loop-now-test.false, c.loop-now.invariant.1.enough) in
    subst (λ (level : ℕ). IsDetached c.args.arena.now.units c.args.arena.now.blocks
    (record { order = c.loop-now.arena.order; level = level; place = c.args.place })) last
    c.loop-now.invariant.1.is_detached
