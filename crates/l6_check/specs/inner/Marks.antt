-- Marks: a place in a list for each number, true where a number was marked.
use Rattle.std.specs.Prelude.{◌≡◌, ℕ, ◌<◌, Bool, true, false, List, [], ◌∷◌, set, get_or}
use Rattle.std.specs.List.{list_any}
use Rattle.l6_check.specs.Ways.{is_number}

-- the marks where these numbers were marked, too
abbrev pub marked : List Bool → List ℕ → List Bool
marked marks [] = marks
marked marks (number ∷ numbers) = marked (set marks number true) numbers

-- the place of this number is there, and marked
abbrev pub is_marked : List Bool → ℕ → Bool
is_marked marks number = get_or marks number false

-- the marks of the numbers below a bound are those of these numbers
abbrev pub AreMarksBelow : ℕ → List ℕ → List Bool → Type 0
AreMarksBelow bound numbers marks =
    (number : ℕ) → number < bound → is_marked marks number ≡ list_any (is_number number) numbers

-- the marks are those of the numbers
abbrev pub AreMarks : List ℕ → List Bool → Type 0
AreMarks numbers marks =
    (number : ℕ) → is_marked marks number ≡ list_any (is_number number) numbers
