-- What a deck spells.
use Rattle.std.specs.Prelude.{ℕ, List}
use Rattle.l6_prog.specs.Statement.{Parts}
use Rattle.l6_group.specs.declared.label.Label.{Label}

-- the statements of a program, and the number of the statement that each label names
pub record Assembled : Type 0 where
  pub program : List Parts
  pub labels : List (Label × ℕ)
