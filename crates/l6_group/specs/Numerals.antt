-- The numbers of the language that groups use.
use Rattle.std.specs.Prelude.{ℕ}

-- how many characters a label may have
abbrev pub most_label_characters : ℕ
most_label_characters = 6

-- how many characters may stand for a number
abbrev pub most_text_characters : ℕ
most_text_characters = 6
