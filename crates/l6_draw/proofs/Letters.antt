-- The letters, one after another.
use Rattle.std.proofs.Common.{◌≡◌, ℕ, suc, ◌+◌, ◌-◌, ◌<◌, [], ◌∷◌, arith, ap}
use Rattle.std.specs.List.{range_with_len}
use Rattle.l6_prog.specs.Numerals.{name_count}
use Rattle.l6_draw.specs.Reach.{letters_from}

one_more : (letter count rest : ℕ) → count ≡ suc rest
    → range_with_len letter count ≡ letter ∷ range_with_len (letter + 1) rest
one_more letter count rest is = ap (range_with_len letter) is

pub letters_more : (letter : ℕ) → letter < name_count
    → letters_from letter ≡ letter ∷ letters_from (letter + 1)
unfolding letters_from
letters_more letter below =
    one_more letter (name_count - letter) (name_count - (letter + 1)) (omega arith)

pub letters_none : (letter : ℕ) → letter ≡ name_count → letters_from letter ≡ []
unfolding letters_from
letters_none letter is =
    ap (range_with_len letter) (let none : name_count - letter ≡ 0 = omega arith in none)
