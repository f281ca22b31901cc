-- Words that are nearly the same.
use Rattle.std.specs.Prelude.{ℕ, ◌==◌, ◌||◌, Bool, true, false, List, [], ◌∷◌, if◌then◌else◌}
use Rattle.std.specs.Str.{bytes_eq}

-- the one is the other with its first two characters exchanged
abbrev pub is_exchanged : List ℕ → List ℕ → Bool
is_exchanged (a ∷ b ∷ one) (c ∷ d ∷ other) =
    if a == d then (if b == c then bytes_eq one other else false) else false
is_exchanged one other = false

-- the first characters differ, and the words are the same but for one character that is replaced, one
-- that the first word has besides, one that the second has besides, or two that are exchanged
abbrev pub is_one_off_here : List ℕ → List ℕ → Bool
is_one_off_here (a ∷ one) (b ∷ other) =
    bytes_eq one other || bytes_eq one (b ∷ other) || bytes_eq (a ∷ one) other
    || is_exchanged (a ∷ one) (b ∷ other)
is_one_off_here (a ∷ []) [] = true
is_one_off_here [] (b ∷ []) = true
is_one_off_here one other = false

-- what is left after the characters that both begin with differs so
abbrev pub is_one_off : List ℕ → List ℕ → Bool
is_one_off (a ∷ one) (b ∷ other) =
    if a == b then is_one_off one other else is_one_off_here (a ∷ one) (b ∷ other)
is_one_off one other = is_one_off_here one other
