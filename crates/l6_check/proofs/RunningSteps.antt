-- What is said of subroutines by marks is what is said of them by the program.
use Rattle.std.proofs.Common.{◌≡◌, ℕ, ◌+◌, Bool, true, false, ltb, ltb-true, List, length, refl, ap, ◌∙◌}
use Rattle.std.specs.Prelude.{◌&&◌, not, slice_get}
use Rattle.std.specs.List.{flat_map}
use Rattle.l6_prog.specs.Statement.{Parts}
use Rattle.l6_check.specs.Running.{calls_of, exits_of, goes_on, is_called, is_left_to, is_subroutine, runs_on_at}
use Rattle.l6_check.specs.Ways.{statements_where}
use Rattle.l6_check.specs.inner.Marks.{AreMarksBelow, is_marked}
use Rattle.l6_check.proofs.WaySteps.{where_same}

runs_on_same : (program : List Parts) (called left : List Bool) →
    AreMarksBelow (length program) (flat_map calls_of program) called →
    AreMarksBelow (length program) (flat_map exits_of program) left →
    (number : ℕ) (is_there : Bool) → ltb number (length program) ≡ is_there →
    (is_there && is_subroutine (is_marked called) (is_marked left) number)
    ≡ (is_there && is_subroutine (is_called program) (is_left_to program) number)
runs_on_same program called left are_called are_left number false there = refl
runs_on_same program called left are_called are_left number true there =
    let within = ltb-true number (length program) there in
    ap (λ b. b && not (is_marked left number)) (are_called number within)
    ∙ ap (λ b. is_called program number && not b) (are_left number within)

pub running_same : (program : List Parts) (called left : List Bool) →
    AreMarksBelow (length program) (flat_map calls_of program) called →
    AreMarksBelow (length program) (flat_map exits_of program) left → (lines : List (List ℕ)) →
    statements_where (runs_on_at (is_marked called) (is_marked left) program) 0 1 lines
    ≡ statements_where (runs_on_at (is_called program) (is_left_to program) program) 0 1 lines
running_same program called left are_called are_left lines =
    where_same (runs_on_at (is_marked called) (is_marked left) program)
    (runs_on_at (is_called program) (is_left_to program) program)
    (λ number line. ap (λ b. goes_on (slice_get program number) && b)
    (runs_on_same program called left are_called are_left (number + 1) (ltb (number + 1) (length program)) refl))
    0 1 lines
