use Rattle.std.proofs.Common.{◌≡◌, length}
use Rattle.std.specs.List.{list_any}
use Rattle.l6_debug.specs.Command.{words_in}
use Rattle.l6_session.specs.Command.{is_near, is_nearly_word_of}
use Rattle.l6_session.proofs.reading.is_nearly_word_of.Given as goal

-- the answer is that of the words that are left
abbrev pub invariant-loop-other : goal.invariant-loop-other
invariant-loop-other l =
    list_any (is_near l.word) (words_in l.rest) ≡ is_nearly_word_of l.fn.verb l.word

abbrev pub decreases-loop-other : goal.decreases-loop-other
decreases-loop-other l = length (words_in l.rest)
