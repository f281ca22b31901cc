-- How characters are taken from the input, and which ones a word holds.
use Rattle.std.specs.Prelude.{ℕ, zero, suc, ◌+◌, ◌/◌, ◌%◌, ◌&&◌, List, [], ◌∷◌, ◌++◌, length, take, drop, nat_le, Option, Result, Ok, Err, if◌then◌else◌}
use Rattle.std.specs.Int.Digits.{number_from_digits}
use Rattle.l6_word.specs.Code.{char_of}
use Rattle.l6_word.specs.Numerals.{code_count}
use Rattle.l6_steps.specs.declared.locus.Locus.{Locus}
use Rattle.l6_steps.specs.declared.trap.Trap.{Trap}
use Rattle.l6_steps.specs.declared.trap.Trap.TheVariants.{BadCount, InputEnded}
use Rattle.l6_steps.specs.ActionResult.{ActionResult, leave}
use Rattle.l6_steps.specs.Getting.{refuse}
use Rattle.l6_steps.specs.Locus.{assign}
use Rattle.l6_steps.specs.Numerals.{word_characters}
use Rattle.l6_steps.specs.State.{Memory, RunParameters}

-- so many characters may be taken or printed at a time
abbrev pub count_of : ℕ → Result ℕ Trap
count_of wanted =
    if nat_le 1 wanted && nat_le wanted word_characters then Ok wanted else Err BadCount

-- the characters of the input that are not taken yet
abbrev pub left_of : RunParameters → Memory → List ℕ
left_of parameters memory = drop memory.taken parameters.input

-- the number that characters stand for: their codes are its digits
abbrev pub number_of : List ℕ → ℕ
number_of codes = number_from_digits code_count codes

-- take so many characters, and assign the number that they stand for to a locus; where fewer are left
-- none is taken, and the request goes to its label
abbrev pub take_characters : RunParameters → ℕ → Locus → Option ℕ → Memory → Result ActionResult Trap
take_characters parameters count at label memory =
    if nat_le count (length (left_of parameters memory))
    then leave (assign (record memory { taken = memory.taken + count }) at
    (number_of (take count (left_of parameters memory))))
    else refuse InputEnded label memory

-- the characters of which the last digits of a number are the codes, so many of them, as text
abbrev pub last_characters : ℕ → ℕ → List ℕ
last_characters zero number = []
last_characters (suc more) number =
    last_characters more (number / code_count) ++ char_of (number % code_count) ∷ []
