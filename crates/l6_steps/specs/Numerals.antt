-- The numbers of the language that runs use.
use Rattle.std.specs.Prelude.{ℕ}

-- how many steps a run may be allowed
abbrev pub most_steps : ℕ
most_steps = 1000000000

-- how many bytes of output a run may be allowed
abbrev pub most_output : ℕ
most_output = 16777216

-- how many contents, how many definitions and how many returns may be saved at a time
abbrev pub most_entries : ℕ
most_entries = 1024

-- how many bytes of input a run may be given
abbrev pub most_input : ℕ
most_input = 1048576

-- how many characters a word holds, and so how many may be taken or printed at a time
abbrev pub word_characters : ℕ
word_characters = 6
