-- The last characters of a word.
use Rattle.std.proofs.Common.{◌≡◌, ℕ, zero, suc, ◌+◌, ◌/◌, ◌%◌, [], ◌∷◌, ap, ◌∙◌, arith, length, length-append, refl}
use Rattle.l6_word.specs.Code.{char_of}
use Rattle.l6_word.specs.Numerals.{code_count}
use Rattle.l6_steps.specs.Characters.{last_characters}

-- they are as many as were asked for
pub length_last : (count number : ℕ) → length (last_characters count number) ≡ count
length_last zero number = refl
length_last (suc more) number =
    length-append (last_characters more (number / code_count))
    (char_of (number % code_count) ∷ [])
    ∙ ap (λ n. n + 1) (length_last more (number / code_count)) ∙ omega arith
