use Rattle.std.proofs.Common.{◌≡◌, ◌++◌, take}
use Rattle.std.specs.List.{flat_map}
use Rattle.l6_asm.specs.Listing.{word_line}
use Rattle.l6_asm.proofs.line.push_words.Given as goal

-- the lines of the words so far are added
abbrev pub invariant-loop-word : goal.invariant-loop-word
invariant-loop-word l =
    l.text.items ≡ l.fn.text.items ++ flat_map word_line (take l.word-index l.words)
