use Rattle.std.proofs.Common.{◌≡◌, ◌∙◌, ◌<◌, ◌%◌, ◌^◌, ap, length, replicate, slice_index, subst, sym}
use Rattle.std.proofs.lemmas.Bool.{ne_eqb}
use Rattle.l6_word.specs.Window.{put}
use Rattle.l6_store.specs.Blocks.{block_at}
use Rattle.l6_steps.specs.Getting.{lies_in, new_block}
use Rattle.l6_steps.specs.State.{Memory}
use Rattle.l6_registers.specs.inner.Registers.{IsIn}
use Rattle.l6_registers.proofs.NewBlocks.{within_now, word_beside, word_changed, word_here, word_other}
use Rattle.l6_word.specs.Numerals.{word_bits}
use Rattle.l6_steps.specs.declared.locus.Locus.TheVariants.{Field}
use Rattle.l6_registers.proofs.upcoming.Upcoming.word_at.Goals as goal
use Rattle.l6_registers.proofs.upcoming.Upcoming.word_at.Goals.{else-changed-start-via-then-changed-start+else-word, else-changed-start-via-else-changed-start}

-- the new block has zeros
pub returns-then-start-self : goal.returns-then-start-self
returns-then-start-self g c =
    let u = c.self.inside in
    let index = c.args.window.word in
    let memory = u.registers.now.memory in
    let then = new_block memory (replicate (2 ^ u.level) 0) u.at u.place in
    let below : index < length (block_at then.blocks u.place) =
    subst (λ q. index < length (block_at then.blocks q)) c.if-start-self.true
    (subst (λ (m : Memory). IsIn m (Field c.args.start c.args.window)) (sym c.self.view_is)
    c.requires) in
    c.default.ensures
    ∙ sym (word_here memory u.level u.place u.at index c.self.invariant.vacant
    c.self.invariant.holds_there below)
    ∙ ap (λ q. slice_index (block_at then.blocks q) index) (sym c.if-start-self.true)
    ∙ ap (λ (m : Memory). slice_index (block_at m.blocks c.args.start) index) c.self.view_is

-- another block has as many words now
pub word_at-word-requires : goal.word_at-word-requires
word_at-word-requires g c =
    let u = c.self.inside in
    within_now u.registers.now.memory (replicate (2 ^ u.level) 0) u.at u.place c.args.start
    c.args.window.word c.self.invariant.vacant c.self.invariant.holds_there c.if-start-self.false
    (subst (λ (m : Memory). IsIn m (Field c.args.start c.args.window)) (sym c.self.view_is)
    c.requires)

-- a bug gets the place, and each block keeps its words
pub returns-in-Bug : goal.returns-in-Bug
returns-in-Bug g c =
    let u = c.self.inside in
    let index = c.args.window.word in
    c.word_at-word.ensures
    ∙ sym (word_other u.registers.now.memory (replicate (2 ^ u.level) 0) u.at u.place c.args.start
    index c.if-start-self.false (ap (lies_in c.args.start) c.in-Bug.is))
    ∙ ap (λ (m : Memory). slice_index (block_at m.blocks c.args.start) index) c.self.view_is

-- a window of this word gets it
pub returns-then-word : goal.returns-then-word
returns-then-word g c =
    let u = c.self.inside in
    let index = c.args.window.word in
    let memory = u.registers.now.memory in
    let zeros = replicate (2 ^ u.level) 0 in
    let q = c.in-Field.changed in
    let window = c.in-Field.at in
    let holds_there = subst (IsIn memory) c.in-Field.is c.self.invariant.holds_there in
    let below =
    within_now memory zeros u.at u.place c.args.start index c.self.invariant.vacant
    c.self.invariant.holds_there c.if-start-self.false
    (subst (λ (m : Memory). IsIn m (Field c.args.start c.args.window)) (sym c.self.view_is)
    c.requires) in
    let same : index ≡ window.word =
    sym c.word-then-changed-start.ensures.value ∙ sym c.if-word.true ∙ c.word.ensures.value in
    c.put.ensures.cut u.place (c.wrapping.ensures ∙ ap (λ n. n % 2 ^ word_bits) c.from.ensures)
    ∙ ap (λ w. put window w u.place) c.word_at-word.ensures
    ∙ sym (word_changed memory zeros q window u.place c.args.start index
    c.self.invariant.vacant holds_there c.if-changed-start.true same below)
    ∙ ap
    (λ at. slice_index (block_at (new_block memory zeros at u.place).blocks c.args.start) index)
    (sym c.in-Field.is)
    ∙ ap (λ (m : Memory). slice_index (block_at m.blocks c.args.start) index) c.self.view_is

-- another word gets it
pub returns-else-changed-start : goal.returns-else-changed-start
returns-else-changed-start g c =
    let u = c.self.inside in
    let index = c.args.window.word in
    let memory = u.registers.now.memory in
    let zeros = replicate (2 ^ u.level) 0 in
    let q = c.in-Field.changed in
    let window = c.in-Field.at in
    let holds_there = subst (IsIn memory) c.in-Field.is c.self.invariant.holds_there in
    let then = new_block memory zeros (Field q window) u.place in
    let kept : slice_index (block_at then.blocks c.args.start) index
    ≡ slice_index (block_at memory.blocks c.args.start) index =
    elim c.else-changed-start.branch
    as (λ _. slice_index (block_at then.blocks c.args.start) index
    ≡ slice_index (block_at memory.blocks c.args.start) index) [
      | else-changed-start-via-then-changed-start+else-word w ↦
          word_beside memory zeros q window u.place c.args.start index
          c.self.invariant.vacant holds_there
          w.if-changed-start.true
          (λ same.
          w.if-word.false
          (w.word.ensures.value ∙ sym same ∙ sym w.word-then-changed-start.ensures.value))
      | else-changed-start-via-else-changed-start w ↦
          word_other memory zeros (Field q window) u.place c.args.start index c.if-start-self.false
          (ne_eqb q c.args.start w.if-changed-start.false)
    ] in
    c.word_at-word.ensures
    ∙ sym kept
    ∙ ap
    (λ at. slice_index (block_at (new_block memory zeros at u.place).blocks c.args.start) index)
    (sym c.in-Field.is)
    ∙ ap (λ (m : Memory). slice_index (block_at m.blocks c.args.start) index) c.self.view_is
