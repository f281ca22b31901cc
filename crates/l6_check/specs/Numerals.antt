-- The numbers of what is said of decks.
use Rattle.std.specs.Prelude.{ℕ, codes, length}

-- how many characters of a word are looked at for advice
abbrev pub most_advised : ℕ
most_advised = 8

-- how many characters the longest line has that separates the parts of a job
abbrev pub most_mark_characters : ℕ
most_mark_characters = length (codes "$COMMANDS")
