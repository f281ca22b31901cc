-- Machine words, among all numbers.
use Rattle.std.specs.Prelude.{ℕ, ◌^◌, Bool, nat_lt}
use Rattle.l6_word.specs.Numerals.{word_bits}

-- the number is that of a word
abbrev pub is_word : ℕ → Bool
is_word number = nat_lt number (2 ^ word_bits)
