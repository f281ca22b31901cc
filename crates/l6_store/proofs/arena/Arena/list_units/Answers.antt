use Rattle.std.proofs.Common.{◌≡◌, ℕ, ◌-◌, ◌*◌, refl, sym, ap, ◌∙◌, subst, arith}
use Rattle.l6_store.specs.inner.ArenaLayout.{IsSoundLayout, ArenaLayout}
use Rattle.l6_word.specs.Numerals.{largest_level, unit_size}
use Rattle.l6_store.specs.Blocks.{Blocks, LiesIn}
use Rattle.l6_store.specs.Rule.{Order}
use Rattle.l6_store.specs.Buddy.{IsListed, first_order, in_front}
use Rattle.l6_store.specs.inner.ArenaLayout.{order_from}
use Rattle.l6_store.proofs.Arenas.{sound}
use Rattle.l6_store.proofs.First.{no_block_lies}
use Rattle.l6_store.proofs.Fresh.{from_none, from_all, from_more, from_fresh}
use Rattle.l6_store.proofs.arena.Arena.list_units.Goals as goal

pub loop-unit-init : goal.loop-unit-init
loop-unit-init c =
    let units : c.self.inside.units ≡ c.args.self.now.units
    = ap (λ (l : ArenaLayout). l.units) c.self.view_is in
    record {
      most = omega (arith, units);
      units = refl;
      blocks = c.requires.blocks;
      order = c.requires.order ∙ from_none c.args.self.now.units
          ∙ ap (order_from c.args.self.now.units) (sym units);
      sound = subst IsSoundLayout c.self.view_is
          (sound c.self.inside.units c.self.inside.words c.self.inside.heads
          c.self.inside.place_tags c.self.invariant.laid);
    }

place : (c : goal.After-from) → c.loop-unit.unit * c.from.result ≡ c.loop-unit.unit * unit_size
place c = ap (λ (n : ℕ). c.loop-unit.unit * n) c.from.ensures

pub overflow_mul-unit : goal.overflow_mul-unit
overflow_mul-unit c =
    omega (arith, place c, c.loop-unit.invariant.most, c.loop-unit.invariant.sound.most)

pub link_unit-requires-clause-some : goal.link_unit-requires-clause-some
link_unit-requires-clause-some c = omega (arith, place c)

pub link_unit-requires-clause-within : goal.link_unit-requires-clause-within
link_unit-requires-clause-within c = omega (arith, place c, c.loop-unit.invariant.most)

pub link_unit-requires-clause-fresh : goal.link_unit-requires-clause-fresh
link_unit-requires-clause-fresh c = λ k is.
    from_fresh c.loop-unit.self.units c.loop-unit.unit k
    (subst (λ (p : ℕ). IsListed (order_from c.loop-unit.self.units c.loop-unit.unit) k p) (place c)
    (subst (λ (o : Order). IsListed o k (c.loop-unit.unit * c.from.result))
    c.loop-unit.invariant.order is))

pub link_unit-requires-clause-beside : goal.link_unit-requires-clause-beside
link_unit-requires-clause-beside c = λ lies.
    no_block_lies (c.loop-unit.unit * c.from.result)
    (subst (λ (b : Blocks). LiesIn b (c.loop-unit.unit * c.from.result))
    c.loop-unit.invariant.blocks lies)

place_then : (c : goal.After-link_unit) → c.loop-unit.unit * c.from.result ≡ c.loop-unit.unit * unit_size
place_then c = ap (λ (n : ℕ). c.loop-unit.unit * n) c.from.ensures

pub loop-unit-preserved : goal.loop-unit-preserved
loop-unit-preserved c =
    let was = c.loop-unit.invariant in
    record {
      most = omega (arith, c.link_unit.ensures.units, was.most);
      units = c.link_unit.ensures.units ∙ was.units;
      blocks = c.link_unit.ensures.blocks ∙ was.blocks;
      order = c.link_unit.ensures.order
          ∙ ap (λ (o : Order). in_front o largest_level (c.loop-unit.unit * c.from.result)) was.order
          ∙ ap (in_front (order_from c.loop-unit.self.units c.loop-unit.unit) largest_level)
          (place_then c)
          ∙ from_more c.loop-unit.self.units c.loop-unit.unit c.loop-unit-test.true was.most
          ∙ ap (λ (n : ℕ). order_from n (c.loop-unit.unit - 1)) (sym c.link_unit.ensures.units);
      sound = c.link_unit.ensures.sound;
    }

pub returns-clause-units : goal.returns-clause-units
returns-clause-units c = c.loop-unit.invariant.units

pub returns-clause-blocks : goal.returns-clause-blocks
returns-clause-blocks c = c.loop-unit.invariant.blocks

pub returns-clause-order : goal.returns-clause-order
returns-clause-order c =
    let none : c.loop-unit.unit ≡ 0 = omega (arith, c.loop-unit-test.false) in
    c.loop-unit.invariant.order
    ∙ ap (order_from c.loop-unit.self.units) none
    ∙ from_all c.loop-unit.self.units
    ∙ ap first_order c.loop-unit.invariant.units

pub returns-clause-sound : goal.returns-clause-sound
returns-clause-sound c = c.loop-unit.invariant.sound
