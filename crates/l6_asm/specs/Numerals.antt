-- The numbers that listings use.
use Rattle.std.specs.Prelude.{ℕ}

-- in how many places the number of a card is
abbrev pub card_places : ℕ
card_places = 7

-- in how many places the number of a statement is
abbrev pub statement_places : ℕ
statement_places = 5

-- in how many places a label is
abbrev pub label_places : ℕ
label_places = 6

-- how many blanks are in front of a word
abbrev pub word_margin : ℕ
word_margin = 15
