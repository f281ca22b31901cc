use Rattle.std.proofs.Common.{◌≡◌, ◌≢◌, ◌∙◌, ◌^◌, List, ap, arith, length, replicate, sym, ℕ}
use Rattle.std.specs.FinMap as map
use Rattle.std.specs.Option.{option_map}
use Rattle.l6_steps.specs.State.{Memory}
use Rattle.l6_registers.proofs.NewBlocks.{blocks_then, size_here, size_kept}
use Rattle.l6_registers.proofs.upcoming.UpcomingReadable.live.Goals as goal

-- the new block has the size of its level
pub returns-then-get-from-clause-size : goal.returns-then-get-from-clause-size
returns-then-get-from-clause-size g c =
    let u = c.self.inside in
    let memory = u.registers.now.memory in
    let blocks = blocks_then memory (replicate (2 ^ u.level) 0) u.at u.place in
    let here : u.place ≡ c.args.pointer =
    omega (arith, c.get.ensures.value, c.from.ensures, c.if-get-from.true) in
    size_here memory u.level u.place u.at c.self.invariant.vacant c.self.invariant.holds_there
    ∙ ap (λ q. option_map (λ (b : List ℕ). length b) (map.get blocks q)) here
    ∙ ap
    (λ (m : Memory). option_map (λ (b : List ℕ). length b) (map.get m.blocks c.args.pointer))
    c.self.view_is

-- and the others have theirs
pub returns-else-get-from-clause-size : goal.returns-else-get-from-clause-size
returns-else-get-from-clause-size g c =
    let u = c.self.inside in
    let memory = u.registers.now.memory in
    let new : c.args.pointer ≢ u.place =
    λ same. c.if-get-from.false (c.get.ensures.value ∙ same ∙ sym c.from.ensures) in
    c.live.ensures.size
    ∙ sym (size_kept memory (replicate (2 ^ u.level) 0) u.at u.place c.args.pointer
    c.self.invariant.vacant c.self.invariant.holds_there new)
    ∙ ap
    (λ (m : Memory). option_map (λ (b : List ℕ). length b) (map.get m.blocks c.args.pointer))
    c.self.view_is
