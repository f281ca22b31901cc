-- The errors of statements, each read by itself.
use Rattle.std.specs.Prelude.{ℕ, zero, suc, ◌+◌, ◌-◌, ◌==◌, ◌&&◌, ◌||◌, is_some, Bool, true, false, List, [], ◌∷◌, ◌++◌, map, codes, drop, length, nat_lt, replicate, take, Option, Some, None, option_to_list, if◌then◌else◌}
use Rattle.std.specs.List.{flat_map}
use Rattle.std.specs.Str.{byte}
use Rattle.l6_word.specs.Lines.{lines_of}
use Rattle.l6_group.specs.Character.{spelled}
use Rattle.l6_group.specs.Word.{after_then}
use Rattle.l6_card.specs.declared.role.Role.{Role}
use Rattle.l6_card.specs.declared.role.Role.TheVariants.{Skipped, First, Further, Unknown}
use Rattle.l6_card.specs.Card.{columns_of}
use Rattle.l6_card.specs.Role.{role_of}
use Rattle.l6_card.specs.declared.objection.Objection.{Objection}
use Rattle.l6_card.specs.declared.objection.Reason.{Reason}
use Rattle.l6_card.specs.declared.objection.Reason.TheVariants.{NoOperation, NoTest, OperationForTest}
use Rattle.l6_card.specs.Objection.{fault_in}
use Rattle.l6_card.specs.ReadAlone.{objection_to_lines}
use Rattle.l6_asm.specs.AssemblyFault.{AssemblyFault, unread}
use Rattle.l6_check.specs.Warnings.{begin_blank}

-- a card of this role continues the statement before it, or is not read
abbrev pub continues : Role → Bool
continues Skipped = true
continues First = false
continues Further = true
continues Unknown = false

-- the columns spell THEN, and perhaps more after it
abbrev pub spell_then : List ℕ → Bool
spell_then columns = is_some (after_then (spelled columns))

-- the columns begin with a blank, and then with THEN
abbrev pub begin_with_then : List ℕ → Bool
begin_with_then columns = begin_blank columns && spell_then columns

-- the card of a line belongs to the statement before it: it says so, or begins with THEN and lacks its `+`
abbrev pub belongs : List ℕ → Bool
belongs line = continues (role_of line) || begin_with_then (columns_of line)

-- how many of these lines, from the first on, belong to the statement before them
abbrev pub further_count : List (List ℕ) → ℕ
further_count [] = 0
further_count (line ∷ lines) = if belongs line then further_count lines + 1 else 0

-- a line in front of parts: it is a part of its own, unless the line after it belongs to it
abbrev pub onto_part : List ℕ → List (List (List ℕ)) → List (List (List ℕ))
onto_part line [] = (line ∷ []) ∷ []
onto_part line ([] ∷ parts) = (line ∷ []) ∷ parts
onto_part line ((next ∷ part) ∷ parts) =
    if belongs next then (line ∷ next ∷ part) ∷ parts
    else (line ∷ []) ∷ (next ∷ part) ∷ parts

-- the parts of lines: each is a line, and those after it that belong to its statement
abbrev pub parts_of : List (List ℕ) → List (List (List ℕ))
parts_of [] = []
parts_of (line ∷ lines) = onto_part line (parts_of lines)

-- how many errors of a statement are told at most
abbrev pub most_of_statement : ℕ
most_of_statement = 10

-- so many blanks
abbrev pub blanks : ℕ → List ℕ
blanks count = replicate count (byte " ")

-- a group with blanks after it, so many columns wide, if it has room
abbrev pub with_blanks : List ℕ → ℕ → Option (List ℕ)
with_blanks group width =
    if nat_lt width (length group) then None else Some (group ++ blanks (width - length group))

-- what stands in for a group that objects, which is so many columns wide, while what follows it is read: a right
-- operation for one that is none, and a right test for one that is none
abbrev pub stand_in_for : Reason → ℕ → Option (List ℕ)
stand_in_for NoOperation width = with_blanks (codes "(PL)") width
stand_in_for NoTest width = with_blanks (codes "(A,E,0)") width
stand_in_for OperationForTest width = with_blanks (codes "(A,E,0)") width
stand_in_for other width = None

abbrev pub stand_in : Objection → Option (List ℕ)
stand_in objection = stand_in_for objection.reason (objection.to - objection.from)

-- a line with other columns from one on, as far as the line goes
abbrev pub overwritten : ℕ → List ℕ → List ℕ → List ℕ
overwritten from columns line =
    take from line ++ take (length line - from) columns ++ drop (from + length columns) line

-- the line of a card with other columns in place of what objects on it
abbrev pub mended_line : Objection → List ℕ → ℕ → List ℕ → List ℕ
mended_line objection columns card line =
    if card == objection.card then overwritten objection.from columns line else line

-- lines with other columns in place of what objects; the first one is the card of this number
abbrev pub mended : Objection → List ℕ → ℕ → List (List ℕ) → List (List ℕ)
mended objection columns card [] = []
mended objection columns card (line ∷ lines) =
    mended_line objection columns card line ∷ mended objection columns (card + 1) lines

-- the objections to a part, of which the first line is the card of this number, at most so many: the first
-- one; and then those to the part with a stand-in for what objects, where something can stand in for it
abbrev pub objections_in : ℕ → ℕ → List (List ℕ) → List Objection
objections_in zero number part = []
objections_in (suc most) number part =
    flat_map (λ objection. objection
    ∷ flat_map (λ columns. objections_in most number (mended objection columns number part))
    (option_to_list (stand_in objection)))
    (option_to_list (objection_to_lines number part))

-- the objections to parts, each read as a deck of its own, of which the first begins with the card of
-- this number
abbrev pub objections_from : ℕ → List (List (List ℕ)) → List Objection
objections_from number [] = []
objections_from number (part ∷ parts) =
    objections_in most_of_statement number part ++ objections_from (number + length part) parts

-- the objections to a deck's statements, each read as a deck of its own
abbrev pub statement_objections : List ℕ → List Objection
statement_objections deck = objections_from 1 (parts_of (lines_of deck))

-- the fault of a deck that an objection is
abbrev pub objected : Objection → AssemblyFault
objected objection = unread (fault_in objection)

-- the faults of a deck's statements, each read as a deck of its own
abbrev pub statement_faults : List ℕ → List AssemblyFault
statement_faults deck = map objected (statement_objections deck)
