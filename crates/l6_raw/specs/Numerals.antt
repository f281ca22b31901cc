-- The numbers that regions use.
use Rattle.std.specs.Prelude.{ℕ}

-- how many bits a word has
abbrev pub word_bits : ℕ
word_bits = 36

-- the most words that a region has
abbrev pub most_words : ℕ
most_words = 262144
