-- Texts that begin with the line of a word.
use Rattle.std.specs.Prelude.{ℕ, ◌+◌, ◌==◌, List, length, take, slice_index, Bool, ◌&&◌, nat_le}
use Rattle.std.specs.Str.{byte}
use Rattle.l6_word.specs.Numerals.{word_octals}
use Rattle.l6_word.specs.Octal.{is_octal12}

-- the text begins with twelve octal digits and a line feed
abbrev pub begins_with_word : List ℕ → Bool
begins_with_word text =
    nat_le (word_octals + 1) (length text) && slice_index text word_octals == byte "\n"
    && is_octal12 (take word_octals text)
