use Rattle.std.proofs.Common.{◌≡◌, ◌∙◌, ap, slice_index, sym}
use Rattle.l6_store.specs.Blocks.{block_at}
use Rattle.l6_store.specs.Store.{Store}
use Rattle.l6_steps.specs.Locus.{assign}
use Rattle.l6_steps.specs.declared.locus.Locus.TheVariants.{Field}
use Rattle.l6_registers.specs.inner.Registers.{Held, held_of}
use Rattle.l6_registers.proofs.Windows.{kept_with, put_with, window_in}
use Rattle.l6_registers.proofs.registers.Registers.assign.Goals as goal

-- the store has changed in one word, and kept its units
pub invariant_of-self-in-Field : goal.invariant_of-self-in-Field
invariant_of-self-in-Field g c =
    let inside = c.self.inside in
    let old = g.S.Places.store inside.store in
    let new = g.S.Places.store c.write.new.self in
    let below =
    window_in c.args.self.now old.blocks c.args.locus c.in-Field.place c.in-Field.window
    (ap (λ (h : Held). h.memory.blocks) c.self.view_is) c.in-Field.is c.requires in
    let was : c.word_at.result
    ≡ slice_index (block_at old.blocks c.in-Field.place) c.in-Field.window.word =
    c.word_at.ensures
    ∙ ap
    (λ (h : Held).
    slice_index (block_at h.memory.blocks c.in-Field.place) c.in-Field.window.word)
    (sym c.self.view_is) in
    let put =
    put_with old new c.in-Field.place c.in-Field.window c.place_of-at.result c.word_at.result
    c.put-word.result c.args.number c.place_of-at.ensures.value below was
    (c.put-word.ensures.cut c.args.number c.wrapping-value.ensures) c.write.ensures.after in
    kept_with g.S.Places.rule inside.bugs inside.definitions inside.saved inside.output.items
    inside.input
    inside.units inside.limits old new _ c.self.invariant (ap (λ (s : Store). s.units) put)
    c.write.ensures.sound

-- the number is in the window of the block's word
pub returns-in-Field : goal.returns-in-Field
returns-in-Field g c =
    let inside = c.self.inside in
    let at = Field c.in-Field.place c.in-Field.window in
    let old = g.S.Places.store inside.store in
    let new = g.S.Places.store c.write.new.self in
    let below =
    window_in c.args.self.now old.blocks c.args.locus c.in-Field.place c.in-Field.window
    (ap (λ (h : Held). h.memory.blocks) c.self.view_is) c.in-Field.is c.requires in
    let was : c.word_at.result
    ≡ slice_index (block_at old.blocks c.in-Field.place) c.in-Field.window.word =
    c.word_at.ensures
    ∙ ap
    (λ (h : Held).
    slice_index (block_at h.memory.blocks c.in-Field.place) c.in-Field.window.word)
    (sym c.self.view_is) in
    let put =
    put_with old new c.in-Field.place c.in-Field.window c.place_of-at.result c.word_at.result
    c.put-word.result c.args.number c.place_of-at.ensures.value below was
    (c.put-word.ensures.cut c.args.number c.wrapping-value.ensures) c.write.ensures.after in
    ap
    (held_of inside.bugs inside.definitions inside.saved inside.output.items inside.input
    inside.units inside.limits) put
    ∙ ap (λ (h : Held). record h { memory = assign h.memory at c.args.number }) c.self.view_is
    ∙ ap
    (λ l. record c.args.self.now { memory = assign c.args.self.now.memory l c.args.number })
    (sym c.in-Field.is)
