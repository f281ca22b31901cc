-- What was seen where a session was before a command, and what has changed since.
use Rattle.std.specs.Prelude.{ℕ, ◌+◌, ◌-◌, ◌==◌, ◌&&◌, nat_lt, Bool, true, false, List, [], ◌∷◌, ◌++◌, length, drop, codes, decimal, Option, Some, None, if◌then◌else◌}
use Rattle.l6_prog.specs.Numerals.{first_letter}
use Rattle.std.specs.List.{flat_map}
use Rattle.l6_word.specs.Lines.{lines_of}
use Rattle.l6_word.specs.Window.{Window}
use Rattle.l6_steps.specs.State.{Memory}
use Rattle.l6_history.specs.Stop.{differs, value_of, values_of}
use Rattle.l6_history.specs.declared.watched.Watched.{Watched}
use Rattle.l6_history.specs.declared.watched.Watched.TheVariants.{Chain as WatchedChain, Word as WatchedWord}
use Rattle.l6_session.specs.Numerals.{most_changes, most_printed}
use Rattle.l6_session.specs.Texts.{name_text, watched_name, window_text}

-- how many characters had been printed, what bugs held, what fields were defined as, and what was
-- watched read as
pub record Seen : Type 0 where
  pub printed : ℕ
  pub bugs : List ℕ
  pub definitions : List (Option Window)
  pub watched : List (Option ℕ)

abbrev pub seen_of : Memory → List Watched → Seen
seen_of memory watched = record {
  printed = length memory.output;
  bugs = memory.bugs;
  definitions = memory.definitions;
  watched = values_of watched memory;
}

-- a value, or that there is none: a chain can't be followed, or a block has no such word
abbrev pub no_value : Watched → List ℕ
no_value (WatchedChain chain) = codes "can't be followed"
no_value (WatchedWord at) = codes "no such word"

abbrev pub value_text : Watched → Option ℕ → List ℕ
value_text watched None = no_value watched
value_text watched (Some word) = decimal word

-- what is watched, what it read as, and what it reads as now
abbrev pub values_text : Watched → Option ℕ → Option ℕ → List ℕ
values_text watched was is = value_text watched was ++ codes " -> " ++ value_text watched is

abbrev pub change_line : Watched → Option ℕ → Option ℕ → List ℕ
change_line watched was is =
    codes "      watch " ++ watched_name watched ++ codes ": " ++ values_text watched was is ++ codes "\n"

-- a line for each that reads as another value than before
abbrev pub watch_line : Watched → Option ℕ → Option ℕ → List ℕ
watch_line watched was is = if differs was is then change_line watched was is else []

abbrev pub watch_lines : Memory → List (Option ℕ) → List Watched → List ℕ
watch_lines memory (was ∷ befores) (one ∷ others) =
    watch_line one was (value_of memory one) ++ watch_lines memory befores others
watch_lines memory befores others = []

-- what a bug held, and what it holds now
abbrev pub bug_line : ℕ → ℕ → ℕ → List ℕ
bug_line name was is =
    codes "      " ++ name_text name ++ codes " " ++ decimal was ++ codes " -> " ++ decimal is
    ++ codes "\n"

-- a line for each of the bugs, from the one of a name on, that hold another value than before
abbrev pub bug_lines : ℕ → List ℕ → List ℕ → List (List ℕ)
bug_lines name (was ∷ befores) (is ∷ nows) =
    if was == is then bug_lines (name + 1) befores nows
    else bug_line name was is ∷ bug_lines (name + 1) befores nows
bug_lines name befores nows = []

-- two definitions are the same
abbrev pub is_same : Option Window → Option Window → Bool
is_same None None = true
is_same (Some one) (Some other) =
    one.word == other.word && (one.first == other.first && one.last == other.last)
is_same None (Some other) = false
is_same (Some one) None = false

-- what a field is now defined as
abbrev pub field_line : ℕ → Option Window → List ℕ
field_line name definition =
    codes "      field " ++ name_text name ++ codes ": " ++ window_text definition ++ codes "\n"

-- a line for each of the fields, from the one of a name on, that are defined otherwise than before
abbrev pub field_lines : ℕ → List (Option Window) → List (Option Window) → List (List ℕ)
field_lines name (was ∷ befores) (is ∷ nows) =
    if is_same was is then field_lines (name + 1) befores nows
    else field_line name is ∷ field_lines (name + 1) befores nows
field_lines name befores nows = []

-- how many more lines there are than may be shown, if there are
abbrev pub further_text : ℕ → List ℕ
further_text further =
    if further == 0 then [] else codes "      and " ++ decimal further ++ codes " more\n"

-- a line, if fewer came before it than may be shown
abbrev pub if_few : ℕ → List ℕ → List ℕ
if_few count line = if nat_lt count most_changes then line else []

-- the lines that may be shown where so many came before them, and how many more there are
abbrev pub limited : ℕ → List (List ℕ) → List ℕ
limited count [] = further_text (count - most_changes)
limited count (line ∷ lines) = if_few count line ++ limited (count + 1) lines

-- the changes of bugs and fields
abbrev pub lines_text : List ℕ → List ℕ → List (Option Window) → List (Option Window) → List ℕ
lines_text bugs bugs_now definitions definitions_now =
    limited 0 (bug_lines first_letter bugs bugs_now ++ field_lines 0 definitions definitions_now)

-- a line that has been printed
abbrev pub shown_line : List ℕ → List ℕ
shown_line line = codes "      printed " ++ line ++ codes "\n"

abbrev pub printed_line : List ℕ → List ℕ
printed_line [] = codes "      printed a line feed\n"
printed_line (first ∷ others) = shown_line (first ∷ others)

abbrev pub more_text : ℕ → List ℕ
more_text count = codes "      printed " ++ decimal count ++ codes " more, see out\n"

-- how many more characters were printed, before those that are shown, if some were
abbrev pub earlier_text : ℕ → List ℕ
earlier_text count =
    if count == 0 then [] else more_text count

-- what is shown of characters that have been printed: the last ones, line by line
abbrev pub printed_lines : List ℕ → List ℕ
printed_lines characters =
    earlier_text (length characters - most_printed)
    ++ flat_map printed_line (lines_of (drop (length characters - most_printed) characters))

-- what has changed: what has been printed, what is watched, and bugs and fields
abbrev pub changes_text : Seen → Memory → List Watched → List ℕ
changes_text seen memory watched =
    printed_lines (drop seen.printed memory.output)
    ++ watch_lines memory seen.watched watched
    ++ lines_text seen.bugs memory.bugs seen.definitions memory.definitions
