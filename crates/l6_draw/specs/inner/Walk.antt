-- The walk over what is reached: which places are visited, and which of them it has not looked at
-- yet.
use Rattle.std.specs.Prelude.{ℕ, Bool, true, false, not, ◌&&◌, List, [], ◌∷◌, ◌++◌, if◌then◌else◌, length, nat_lt, slice_index_or, slice_set}
use Rattle.std.specs.FinMap as places
use Rattle.l6_store.specs.Blocks.{Blocks}

pub record Walk : Type 0 where
  pub visited : List Bool
  pub worklist : List ℕ

-- whether a place is visited
abbrev pub is_visited : List Bool → ℕ → Bool
is_visited visited place = slice_index_or visited place false

-- whether a number is to be marked as visited: a block begins there, and it is not visited yet
abbrev pub is_new : Blocks → List Bool → ℕ → Bool
is_new blocks visited number =
    nat_lt number (length visited) && not (is_visited visited number)
    && places.contains_key blocks number

-- after a number is marked
unfoldable pub met : Blocks → ℕ → Walk → Walk
met blocks number walk =
    if is_new blocks walk.visited number
    then record {
      visited = slice_set walk.visited number true;
      worklist = walk.worklist ++ number ∷ [];
    }
    else walk

-- after numbers are marked, one after another
abbrev pub all_met : Blocks → List ℕ → Walk → Walk
all_met blocks [] walk = walk
all_met blocks (number ∷ numbers) walk = all_met blocks numbers (met blocks number walk)
