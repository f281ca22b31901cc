-- Texts without the blanks around them.
use Rattle.std.specs.Prelude.{ℕ, ◌-◌, List, length, take, drop}
use Rattle.std.specs.Char.{is_ascii_whitespace}
use Rattle.std.specs.List.{prefix_len, suffix_len}

-- without the blanks before it, and without those after it
abbrev pub without_start : List ℕ → List ℕ
without_start text = drop (prefix_len is_ascii_whitespace text) text

abbrev pub without_end : List ℕ → List ℕ
without_end text = take (length text - suffix_len is_ascii_whitespace text) text

abbrev pub trimmed : List ℕ → List ℕ
trimmed text = without_end (without_start text)
