use Rattle.std.proofs.Common.{◌≡◌, ◌+◌, ◌++◌, drop}
use Rattle.std.specs.List.{enumerate_from, flat_map}
use Rattle.l6_debug.specs.Answer.{word_line}
use Rattle.l6_debug.proofs.showing.push_words.Given as goal

-- the text so far, with the lines of the words that are left, is that of all words
abbrev pub invariant-loop-index : goal.invariant-loop-index
invariant-loop-index l =
    l.text.items ++ flat_map word_line (enumerate_from (0 + l.index) (drop l.index l.words))
    ≡ l.fn.text.items ++ flat_map word_line (enumerate_from 0 l.words)
