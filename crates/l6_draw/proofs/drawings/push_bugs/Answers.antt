use Rattle.std.proofs.Common.{◌≡◌, ◌++◌, [], ℕ, arith, ap, ◌∙◌}
use Rattle.std.specs.List.{flat_map}
use Rattle.l6_prog.specs.Numerals.{name_count}
use Rattle.l6_draw.specs.Drawing.{arrow, bug_line}
use Rattle.l6_draw.specs.Reach.{letters}
use Rattle.l6_draw.proofs.Lines.{letter_line_more, letter_line_none}
use Rattle.l6_draw.proofs.drawings.push_bugs.Goals as goal

pub loop-letter-preserved : goal.loop-letter-preserved
loop-letter-preserved g c =
    let memory = c.args.machine.now.configuration.state.memory in
    letter_line_more (bug_line memory) c.loop-letter.letter c.loop-letter.text.items
    c.push_arrow.new.text.items (c.args.text.now.items ++ flat_map (bug_line memory) letters)
    c.loop-letter-test.true
    (c.in_ok-push_arrow.ensures
    ∙ ap (λ (number : ℕ). c.loop-letter.text.items ++ arrow memory [] c.loop-letter.letter number)
    c.bug.ensures)
    c.loop-letter.invariant

pub returns : goal.returns
returns g c =
    let memory = c.args.machine.now.configuration.state.memory in
    letter_line_none (bug_line memory) c.loop-letter.letter c.loop-letter.text.items
    (c.args.text.now.items ++ flat_map (bug_line memory) letters)
    (let end : c.loop-letter.letter ≡ name_count = omega arith in end) c.loop-letter.invariant
