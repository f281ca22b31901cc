-- Labels that are nearly the same.
use Rattle.std.specs.Prelude.{ℕ, ◌==◌, ◌&&◌, ◌||◌, Bool, false, List, [], ◌∷◌, codes, drop, length, Option, Some, None, if◌then◌else◌}
use Rattle.std.specs.List.{find}
use Rattle.std.specs.Str.{bytes_eq}
use Rattle.l6_group.specs.declared.label.Label.{Label}

-- texts are the same once the first two characters of one are exchanged
abbrev pub are_exchanged : List ℕ → List ℕ → Bool
are_exchanged (a ∷ b ∷ one) (c ∷ d ∷ other) = a == d && b == c && bytes_eq one other
are_exchanged one other = false

-- texts are the same once the first character of one, of the other or of both is left out, or the first two
-- are exchanged
abbrev pub differ_at_first : List ℕ → List ℕ → Bool
differ_at_first one other =
    bytes_eq (drop 1 one) (drop 1 other)
    || bytes_eq (drop 1 one) other
    || bytes_eq one (drop 1 other)
    || are_exchanged one other

-- texts are nearly the same: from the first character on that differs, they are the same but for that character,
-- or one text has it and the other has not, or it is exchanged with the next one
abbrev pub are_near : List ℕ → List ℕ → Bool
are_near [] other = length other == 1
are_near one [] = length one == 1
are_near (a ∷ one) (b ∷ other) =
    if a == b then are_near one other else differ_at_first (a ∷ one) (b ∷ other)

-- the exits, which are no labels
abbrev pub exits : List (List ℕ)
exits = codes "DONE" ∷ codes "FAIL" ∷ []

-- the first of these texts that is nearly a label
abbrev pub first_near : List (List ℕ) → Label → Option (List ℕ)
first_near texts label = find (are_near label) texts

-- that or another one, if there is none
abbrev pub one_or : Option (List ℕ) → Option (List ℕ) → Option (List ℕ)
one_or None other = other
one_or (Some text) other = Some text

-- the first of the labels that cards give that is nearly this one
abbrev pub first_given : List (Label × ℕ) → Label → Option (List ℕ)
first_given [] label = None
first_given (entry ∷ given) label =
    if are_near label entry.0 then Some entry.0 else first_given given label

-- what is nearly a label: the first of those that cards give, or else an exit
abbrev pub nearest : List (Label × ℕ) → Label → Option (List ℕ)
nearest given label = one_or (first_given given label) (first_near exits label)
