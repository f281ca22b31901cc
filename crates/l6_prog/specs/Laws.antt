-- The law of programs.
use Rattle.std.specs.Prelude.{◌≡◌, ◌↔◌, List, Ok, true}
use Rattle.std.specs.List.{list_all}
use Rattle.l6_prog.specs.Statement.{Parts}
use Rattle.l6_prog.specs.Program.{program_of, IsProgram}
use Rattle.l6_prog.specs.Values.{has_values}

-- all holds of statements that holds of every program exactly where they are taken as one, and their
-- names are names and their numbers words
abbrev pub TakesJustPrograms : Type 0
TakesJustPrograms =
    (statements : List Parts) →
    ((program_of statements ≡ Ok statements) × (list_all has_values statements ≡ true))
    ↔ IsProgram statements
