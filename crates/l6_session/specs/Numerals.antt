-- The numbers of sessions.
use Rattle.std.specs.Prelude.{ℕ}

-- how many chains may be displayed at once
abbrev pub most_displayed : ℕ
most_displayed = 8

-- how often a command is repeated at most
abbrev pub most_repeats : ℕ
most_repeats = 65535

-- how many characters the word of a command has at most, and how many it has at least to which another
-- one is near
abbrev pub most_command_word : ℕ
most_command_word = 32

abbrev pub least_near : ℕ
least_near = 4

-- in how many columns help has how a command is written, and all of what it says of one in its list
abbrev pub usage_places : ℕ
usage_places = 22

abbrev pub cell_places : ℕ
cell_places = 40

-- how many changes of bugs and fields are shown
abbrev pub most_changes : ℕ
most_changes = 8

-- how many characters are shown at a stop of what has been printed since the one before
abbrev pub most_printed : ℕ
most_printed = 400

-- how many statements are listed before and after the one that is asked for
abbrev pub near_statements : ℕ
near_statements = 4

-- how many cards are listed that follow the ones before, or that are before them
abbrev pub listed_cards : ℕ
listed_cards = 10

-- how many lines of a drawing are shown
abbrev pub most_drawn : ℕ
most_drawn = 40
