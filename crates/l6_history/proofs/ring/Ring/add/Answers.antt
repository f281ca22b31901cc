use Rattle.std.proofs.Common.{◌≡◌, length, sym, ◌∙◌, subst, arith}
use Rattle.std.specs.Prelude.{IfSome}
use Rattle.std.specs.List.{All}
use Rattle.std.proofs.lemmas.Bool.{eqb-true}
use Rattle.circular_buffer.specs.Buffer.{Buffer}
use Rattle.l6_history.specs.Numerals.{most_kept}
use Rattle.l6_history.specs.inner.Ring.{Checkpoints, items_of}
use Rattle.l6_history.specs.inner.NumberedMachine.{NumberedMachine}
use Rattle.l6_history.proofs.Rings.{first_same, may_add_next, may_add_none, on_err, on_ok}
use Rattle.l6_history.proofs.ring.Ring.add.Goals as goal

-- the oldest is of the same run
pub take_from-requires : goal.take_from-requires
take_from-requires g c =
    first_same c.args.numbered_machine.now.context c.in-Some.numbered_machines.items
    c.in-Some-pop_front.oldest
    (subst (λ (k : Checkpoints). All
    (λ (v : NumberedMachine). v.context ≡ c.args.numbered_machine.now.context) (items_of k))
    c.in-Some.is c.requires.same)
    (sym c.in-Some-pop_front.is ∙ c.pop_front.ensures.value)

-- the ring is full, and may have some
pub returns-then-is_ok : goal.returns-then-is_ok
returns-then-is_ok g c =
    let ring = c.in-Some.numbered_machines in
    let full = eqb-true (length ring.items) ring.capacity
    (sym c.is_full.ensures ∙ c.if-not-is_full.false) in
    let room : ring.capacity ≡ most_kept =
    subst (λ (k : Checkpoints). IfSome k (λ (b : Buffer NumberedMachine). b.capacity ≡ most_kept))
    c.in-Some.is c.requires.room in
    may_add_next c.args.self.now.numbered_machines ring c.pop_front.new.self
    c.push_back-then-is_ok.new.self
    c.args.numbered_machine.now c.take_from.new.self c.in-Some.is full (omega (arith, room))
    c.pop_front.ensures.items
    (on_ok (c.take_from.new.self ≡ c.args.numbered_machine.now) c.take_from.result
    (sym c.is_ok.ensures.value ∙ c.if-is_ok.true) c.take_from.ensures.ok)
    c.push_back-then-is_ok.ensures.items

pub returns-else-is_ok : goal.returns-else-is_ok
returns-else-is_ok g c =
    let ring = c.in-Some.numbered_machines in
    let full = eqb-true (length ring.items) ring.capacity
    (sym c.is_full.ensures ∙ c.if-not-is_full.false) in
    let room : ring.capacity ≡ most_kept =
    subst (λ (k : Checkpoints). IfSome k (λ (b : Buffer NumberedMachine). b.capacity ≡ most_kept))
    c.in-Some.is c.requires.room in
    may_add_none c.args.self.now.numbered_machines ring c.pop_front.new.self c.push_front.new.self
    c.args.numbered_machine.now c.in-Some-pop_front.oldest c.take_from.new.self c.in-Some.is full
    (omega (arith, room)) c.pop_front.ensures.items
    (sym c.in-Some-pop_front.is ∙ c.pop_front.ensures.value)
    (on_err (c.take_from.new.self ≡ c.in-Some-pop_front.oldest) c.take_from.result
    (sym c.is_ok.ensures.value ∙ c.if-is_ok.false) c.take_from.ensures.err)
    c.push_front.ensures.items
