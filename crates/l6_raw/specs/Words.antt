-- Lists of words, and what becomes of them.
use Rattle.std.specs.Prelude.{ℕ, ◌+◌, ◌^◌, ◌<◌, List, ◌++◌, length, take, drop}
use Rattle.std.specs.List.{All}
use Rattle.l6_raw.specs.Numerals.{word_bits}

-- each of these is a word
abbrev pub AreWords : List ℕ → Type 0
AreWords words = All (λ word. word < 2 ^ word_bits) words

-- the words with others in place of those from a place on
abbrev pub overwritten : List ℕ → ℕ → List ℕ → List ℕ
overwritten words place others =
    take place words ++ (others ++ drop (place + length others) words)
