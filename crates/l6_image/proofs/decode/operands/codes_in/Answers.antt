use Rattle.std.proofs.Common.{◌≡◌, ◌+◌, ◌<◌, length, rules, ◌∙◌}
use Rattle.l6_prog.specs.Numerals.{most_characters}
use Rattle.l6_image.proofs.Taken.{codes_full, codes_whole}
use Rattle.l6_image.proofs.decode.operands.codes_in.Goals as goal

pub returns-then-is_err : goal.returns-then-is_err
returns-then-is_err c =
    let now = c.loop-word in
    let same : c.try_extend_from_slice.new.self.items ≡ now.codes.items = search rules in
    let full : most_characters < length now.codes.items + 6 = search rules in
    same
    ∙ codes_full c.args.words.now now.codes.items now.word-index c.loop-word-test.true
    now.invariant.codes now.invariant.few full

pub returns : goal.returns
returns c =
    let now = c.loop-word in
    codes_whole c.args.words.now now.codes.items now.word-index c.loop-word-test.false
    now.invariant.codes now.invariant.few
