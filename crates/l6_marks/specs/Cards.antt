-- The lines of cards, and to which statements they belong.
use Rattle.std.specs.Prelude.{ℕ, ◌+◌, ◌-◌, ◌==◌, nat_lt, ◌&&◌, Bool, false, List, [], ◌++◌, length, replicate, codes, decimal, Option, Some, None, if◌then◌else◌}
use Rattle.std.specs.Str.{byte}
use Rattle.l6_card.specs.declared.role.Role.{Role}
use Rattle.l6_card.specs.declared.role.Role.TheVariants.{First, Further}
use Rattle.l6_word.specs.Lines.{without_return}
use Rattle.l6_marks.specs.Numerals.{card_places}

-- how many statements have begun with a card, where so many had before it
abbrev pub begun_with : Role → ℕ → ℕ
begun_with First before = before + 1
begun_with _ before = before

-- the statement of a card, where so many have begun with it: other cards belong to none
abbrev pub statement_with : Role → ℕ → Option ℕ
statement_with First begun = Some (begun - 1)
statement_with Further begun = Some (begun - 1)
statement_with _ begun = None

-- a card is one of a statement's
abbrev pub is_statement : ℕ → Option ℕ → Bool
is_statement statement None = false
is_statement statement (Some number) = number == statement

-- a card with its number, at the right end of its places
abbrev pub card_line : ℕ → List ℕ → List ℕ
card_line card line =
    replicate (card_places - length (decimal card)) (byte " ") ++ decimal card ++ codes " "
    ++ without_return line ++ codes "\n"

-- the last statement of a program is added to each deck, and has no card
abbrev pub is_added : ℕ → ℕ → Bool
is_added statements statement = nat_lt 0 statements && (statements - 1 == statement)

abbrev pub added_text : ℕ → ℕ → List ℕ
added_text statements statement =
    if is_added statements statement then codes "      the DONE that follows the last card\n" else []
