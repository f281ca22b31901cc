-- The words of a card: conditions, THEN and exits.
use Rattle.std.specs.Prelude.{ℕ, ◌==◌, ◌&&◌, Option, Some, None, List, [], ◌∷◌, if◌then◌else◌}
use Rattle.std.specs.Option.{option_map, option_or}
use Rattle.std.specs.Str.{byte}
use Rattle.l6_prog.specs.declared.condition.Cond.{Cond}
use Rattle.l6_prog.specs.declared.condition.Cond.TheVariants as condition
use Rattle.l6_prog.specs.declared.exit.Exit.{Exit}
use Rattle.l6_prog.specs.declared.exit.Exit.TheVariants as exit
use Rattle.l6_group.specs.declared.label.Label.{Label}
use Rattle.l6_group.specs.Exits.{done_word, fail_word}
use Rattle.l6_group.specs.Label.{label_from}
use Rattle.l6_group.specs.Spelling.{Line, ◌means◌, find_spelled}

-- the exits that are no label
abbrev pub plain_exits : List (Line (Exit Label))
plain_exits = done_word means exit.Done ∷ fail_word means exit.Fail ∷ []

-- the exit to the label that characters spell
abbrev pub label_exit : List ℕ → Option (Exit Label)
label_exit characters = option_map exit.Label (label_from characters)

-- the exit that characters spell: DONE, FAIL or a label
abbrev pub exit_from : List ℕ → Option (Exit Label)
exit_from characters = option_or (find_spelled plain_exits characters) (label_exit characters)

-- the condition words
abbrev pub conditions : List (Line Cond)
conditions =
    "IF" means condition.If
    ∷ "NOT" means condition.Not
    ∷ "IFALL" means condition.IfAll
    ∷ "IFANY" means condition.IfAny
    ∷ "IFNONE" means condition.IfNone
    ∷ "IFNALL" means condition.IfNotAll
    ∷ []

-- the condition that characters spell
abbrev pub condition_from : List ℕ → Option Cond
condition_from characters = find_spelled conditions characters

-- the characters after a THEN that they begin with
abbrev pub after_then : List ℕ → Option (List ℕ)
after_then (t ∷ h ∷ e ∷ n ∷ following) =
    if t == byte "T" && h == byte "H" && e == byte "E" && n == byte "N" then Some following else None
after_then _ = None
