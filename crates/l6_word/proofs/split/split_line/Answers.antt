use Rattle.std.specs.Str.{byte}
use Rattle.l6_word.proofs.Cuts.{cut_behind}
use Rattle.l6_word.proofs.split.split_line.Goals as goal

pub returns-clause-parts : goal.returns-clause-parts
returns-clause-parts c =
    let skipped = c.skip_blocks.ensures in
    cut_behind (byte "\n") c.args.text.now skipped.0 c.skip_blocks.result.now _
    c.in_ok-following.following.now skipped.1 skipped.2 c.in_ok-following.ensures.parts
