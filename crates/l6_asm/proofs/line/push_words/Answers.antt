use Rattle.std.proofs.Common.{◌≡◌, get_or, rules}
use Rattle.l6_asm.proofs.StatementLines.{word_more}
use Rattle.l6_asm.proofs.line.push_words.Goals as goal

pub loop-word-preserved : goal.loop-word-preserved
loop-word-preserved c =
    let words = c.args.words.now in
    let place = c.loop-word.word-index in
    let word = c.from_value.result in
    let is : word ≡ get_or words place word = search rules in
    word_more c.args.text.now.items c.loop-word.text.items c.push_word.new.text.items words place word
    (search rules) is c.loop-word.invariant (search rules)
