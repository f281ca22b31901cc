use Rattle.std.proofs.Common.{◌≡◌, ◌+◌, arith, ap, sym, ◌∙◌}
use Rattle.l6_prog.specs.Numerals.{name_count}
use Rattle.l6_draw.specs.inner.Walk.{met}
use Rattle.l6_draw.proofs.Meeting.{bugs_met, bugs_more, bugs_none}
use Rattle.l6_draw.proofs.walk.Walk.meet_bugs.Goals as goal

pub loop-letter-preserved : goal.loop-letter-preserved
loop-letter-preserved g c =
    let memory = c.args.machine.now.configuration.state.memory in
    let letter = c.loop-letter.letter in
    let walk = c.loop-letter.self in
    let one = bugs_more memory letter walk c.loop-letter-test.true in
    let before = c.loop-letter.invariant in
    let blocks = c.store.ensures.blocks in
    let held = c.bug.ensures in
    let now = c.in_ok-meet.ensures in
    ap (bugs_met memory (letter + 1)) (rw (blocks, held) at now) ∙ one ∙ before

pub returns : goal.returns
returns g c =
    let end : c.loop-letter.letter ≡ name_count = omega arith in
    sym (bugs_none c.args.machine.now.configuration.state.memory c.loop-letter.letter
    c.loop-letter.self end)
    ∙ c.loop-letter.invariant
