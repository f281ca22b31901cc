use Rattle.std.proofs.Common.{◌≡◌, ap, sym, ◌∙◌, arith}
use Rattle.l6_store.specs.Store.{Store}
use Rattle.l6_registers.proofs.Holding.{held_reset}
use Rattle.l6_registers.proofs.registers.Registers.reset.Goals as goal

-- each bug is the word 0, nothing is saved or printed, and the store is as it was made
pub invariant_of-self : goal.invariant_of-self
invariant_of-self g c =
    let store = g.S.Places.store c.reset.new.self in
    let units : c.self.inside.units ≡ store.units =
    sym (ap (λ (s : Store). s.units) c.reset.ensures.after ∙ c.self.invariant.same_units) in
    record {
      are_held = held_reset g.S.Places.rule c.copy_from_slice.new.self c.default-bugs.result
          c.self.inside.units _ _ c.clear.new.self c.rewind.new.self c.self.inside.limits store
          c.copy_from_slice.ensures.after (omega (arith, c.default-bugs.ensures))
          c.clear-2.ensures.items c.clear.ensures.contents units c.reset.ensures.sound;
      room = omega (arith, c.self.invariant.room, c.clear-2.ensures.capacity);
      same_units = sym units;
    }

pub returns-clause-held : goal.returns-clause-held
returns-clause-held g c =
    let store = g.S.Places.store c.reset.new.self in
    let units : c.self.inside.units ≡ store.units =
    sym (ap (λ (s : Store). s.units) c.reset.ensures.after ∙ c.self.invariant.same_units) in
    held_reset g.S.Places.rule c.copy_from_slice.new.self c.default-bugs.result
    c.self.inside.units _ _ c.clear.new.self c.rewind.new.self c.self.inside.limits store
    c.copy_from_slice.ensures.after (omega (arith, c.default-bugs.ensures))
    c.clear-2.ensures.items c.clear.ensures.contents units c.reset.ensures.sound
