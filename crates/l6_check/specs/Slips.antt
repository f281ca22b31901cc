-- Tests as other languages have them, and what to write in their place.
use Rattle.std.specs.Prelude.{ℕ, List, [], ◌∷◌, codes}
use Rattle.std.specs.Option.{unwrap_or}
use Rattle.l6_group.specs.Spelling.{Line, ◌means◌, find_spelled}

abbrev pub equal : List ℕ
equal = codes "(c,E,cd) asks whether c is cd"

abbrev pub not_equal : List ℕ
not_equal = codes "(c,N,cd) asks whether c is not cd"

abbrev pub greater : List ℕ
greater = codes "(c,G,cd) asks whether c is greater than cd"

abbrev pub less : List ℕ
less = codes "(c,L,cd) asks whether c is less than cd"

abbrev pub not_less : List ℕ
not_less = codes "NOT (c,L,cd) asks whether c is not less than cd"

abbrev pub not_greater : List ℕ
not_greater = codes "NOT (c,G,cd) asks whether c is not greater than cd"

-- what to write in place of a test that is spelled so, or nothing: a line for each spelling
abbrev pub bound_slips : List (Line (List ℕ))
bound_slips =
    "GE" means not_less
    ∷ ">=" means not_less
    ∷ "=>" means not_less
    ∷ "LE" means not_greater
    ∷ "<=" means not_greater
    ∷ "=<" means not_greater
    ∷ []

abbrev pub bound_slip : List ℕ → List ℕ
bound_slip characters = unwrap_or (find_spelled bound_slips characters) []

abbrev pub order_slips : List (Line (List ℕ))
order_slips =
    "GR" means greater
    ∷ ">" means greater
    ∷ "LS" means less
    ∷ "LT" means less
    ∷ "<" means less
    ∷ []

abbrev pub order_slip : List ℕ → List ℕ
order_slip characters = unwrap_or (find_spelled order_slips characters) (bound_slip characters)

abbrev pub equality_slips : List (Line (List ℕ))
equality_slips =
    "EQ" means equal
    ∷ "=" means equal
    ∷ "==" means equal
    ∷ "IS" means equal
    ∷ "NE" means not_equal
    ∷ "NEQ" means not_equal
    ∷ "!=" means not_equal
    ∷ "<>" means not_equal
    ∷ "/=" means not_equal
    ∷ "NOT" means not_equal
    ∷ []

abbrev pub test_slip : List ℕ → List ℕ
test_slip characters = unwrap_or (find_spelled equality_slips characters) (order_slip characters)

-- the same of a test between points, as Fortran has them
abbrev pub pointed_slips : List (Line (List ℕ))
pointed_slips =
    ".EQ." means equal
    ∷ ".NE." means not_equal
    ∷ ".GT." means greater
    ∷ ".LT." means less
    ∷ ".GE." means not_less
    ∷ ".LE." means not_greater
    ∷ []

abbrev pub pointed_slip : List ℕ → List ℕ
pointed_slip characters = unwrap_or (find_spelled pointed_slips characters) []
