-- What a user may choose for a run.
use Rattle.std.specs.Prelude.{ℕ, Bool, ◌&&◌, nat_le, List}
use Rattle.l6_prog.specs.Statement.{Parts}
use Rattle.l6_store.specs.Buddy.{buddy_rule}
use Rattle.l6_store.specs.Numerals.{most_units}
use Rattle.l6_store.specs.Rule.{Rule}
use Rattle.l6_steps.specs.Limits.{are_allowed}
use Rattle.l6_steps.specs.State.{RunContext, run_context}
use Rattle.l6_steps.specs.declared.limits.Limits.{Limits}
use Rattle.l6_machine.specs.Numerals.{default_units, default_steps, default_output}

-- how many units the store has, and how far the run may go
pub record OptionValues : Type 0 where
  pub units : ℕ
  pub limits : Limits

-- so many units, steps, and bytes of output
abbrev pub option_values : ℕ → ℕ → ℕ → OptionValues
option_values units steps output = record {
  units = units;
  limits = record { steps = steps; output = output };
}

-- a user may choose so
abbrev pub is_in_range : OptionValues → Bool
is_in_range options =
    nat_le 1 options.units && nat_le options.units most_units && are_allowed options.limits

-- what a user has who chooses nothing
abbrev pub default_options : OptionValues
default_options = option_values default_units default_steps default_output

-- the context in which a program runs under these options, with this input
abbrev pub context_under : OptionValues → List ℕ → List Parts → RunContext
context_under options input program = run_context program options.units options.limits input

-- the rule by which the store of a run picks its places: the buddy system's
abbrev pub store_rule : Rule
store_rule = buddy_rule
