use Rattle.std.proofs.Common.{◌≡◌, ◌∙◌, ◌<◌, ap, length, slice_index, subst, sym}
use Rattle.l6_store.specs.Blocks.{block_at}
use Rattle.l6_registers.specs.inner.Registers.{Held}
use Rattle.l6_registers.proofs.Windows.{read_with}
use Rattle.l6_registers.proofs.registers.Registers.word_at.Goals as goal

-- what the store reads there is the block's word
pub returns : goal.returns
returns g c =
    let place = c.args.place in
    let index = c.args.window.word in
    let blocks = (g.S.Places.store c.self.inside.store).blocks in
    let same : blocks ≡ c.args.self.now.memory.blocks =
    ap (λ (h : Held). h.memory.blocks) c.self.view_is in
    let below : index < length (block_at blocks place) =
    subst (λ b. index < length (block_at b place)) (sym same) c.requires in
    read_with blocks place index c.place_of.result c.read.result c.place_of.ensures.value below
    c.read.ensures
    ∙ ap (λ b. slice_index (block_at b place) index) same
