use Rattle.std.proofs.Common.{arith}
use Rattle.l6_registers.proofs.Windows.{live_with, near}
use Rattle.l6_registers.proofs.registers.Registers.place_of.Goals as goal

-- the word lies in a block, and so in the store
pub overflow_add-result : goal.overflow_add-result
overflow_add-result g c =
    let held = c.reveal_invariant.ensures.held in
    let blocks = c.args.self.now.memory.blocks in
    let index = c.args.window.word in
    let live = live_with blocks c.args.place index c.requires in
    let end = near g.S.Places.rule c.args.self.now c.args.place held live in
    omega (arith, end, c.requires, c.from.ensures, c.word.ensures.value)
