use Rattle.std.proofs.Common.{◌≡◌, ◌+◌, ◌-◌, ◌*◌, ◌^◌, ◌≤◌}
use Rattle.l6_word.specs.Numerals.{largest_level}
use Rattle.l6_store.specs.Buddy.{free_words_below}
use Rattle.l6_store.proofs.piece.count_free_words.Given as goal

-- the words of the levels below were counted
abbrev pub invariant-loop-level : goal.invariant-loop-level
invariant-loop-level l =
    (l.words ≡ free_words_below l.level l.arena.order)
    × (l.words ≤ l.level * 2 ^ 28) × (l.level ≤ largest_level + 1)

abbrev pub decreases-loop-level : goal.decreases-loop-level
decreases-loop-level l = largest_level + 1 - l.level
