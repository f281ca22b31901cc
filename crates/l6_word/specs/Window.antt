-- Windows: bits side by side in a word of a block.
use Rattle.std.specs.Prelude.{ℕ, ◌+◌, ◌-◌, ◌*◌, ◌/◌, ◌%◌, ◌^◌, Bool, ◌&&◌, nat_le, nat_lt}
use Rattle.l6_word.specs.Numerals.{word_bits, unit_size}

-- which word of a block, and the first and the last of the window's bits; bit 0 is the leftmost of
-- a word
pub record Window : Type 0 where
  pub word : ℕ
  pub first : ℕ
  pub last : ℕ

-- the largest block has that word, and a word has those bits, in this order
abbrev pub is_window : Window → Bool
is_window window =
    nat_lt window.word unit_size && nat_le window.first window.last
    && nat_lt window.last word_bits

-- how many bits the window has
abbrev pub width : Window → ℕ
width window = window.last - window.first + 1

-- how many bits of the word are to the right of the window
abbrev pub right_of : Window → ℕ
right_of window = word_bits - 1 - window.last

-- what the window shows of a word
abbrev pub take : Window → ℕ → ℕ
take window word = word / 2 ^ right_of window % 2 ^ width window

-- the word with a value in the window, as many of the value's lowest bits as the window has; the
-- other bits stay
abbrev pub put : Window → ℕ → ℕ → ℕ
put window word value =
    word - take window word * 2 ^ right_of window + value % 2 ^ width window * 2 ^ right_of window
