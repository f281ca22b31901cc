-- How a session reads the lines of its commands.
use Rattle.std.specs.Prelude.{ℕ, ◌-◌, ◌==◌, nat_lt, nat_le, slice_index, slice_range, ◌&&◌, Bool, true, false, List, [], ◌∷◌, codes, length, Option, Some, None, if◌then◌else◌}
use Rattle.std.specs.Str.{byte, bytes_eq}
use Rattle.l6_word.specs.Lines.{without_return}
use Rattle.l6_group.specs.Character.{spelled}
use Rattle.l6_group.specs.Element.{chain_of, operand_of}
use Rattle.l6_group.specs.Spelling.{◌>>=◌}
use Rattle.l6_group.specs.Test.{test_of}
use Rattle.l6_prog.specs.declared.condition.Test.{Test}
use Rattle.l6_word.specs.Numerals.{unit_size}
use Rattle.l6_history.specs.declared.watched.Watched.TheVariants.{Chain as WatchedChain, Word as WatchedWord}
use Rattle.l6_prog.specs.declared.operand.Operand.TheVariants.{Chain, Number}
use Rattle.l6_debug.specs.Command.{number_of, words_in}
use Rattle.l6_session.specs.Command.{alone, moved, named_among, nearly_among, shown, verbs}
use Rattle.l6_session.specs.Names.{Names, statement_of, statement_of_label}
use Rattle.l6_session.specs.Numerals.{most_command_word}
use Rattle.l6_session.specs.Parted.{parted}
use Rattle.l6_session.specs.Topics.{topic_of}
use Rattle.l6_prog.specs.declared.operand.Operand.{Operand}
use Rattle.l6_session.specs.declared.command.Command.{Command}
use Rattle.l6_session.specs.declared.command.Command.TheVariants.{Move, Setting, View, WatchWord, Who}
use Rattle.l6_session.specs.declared.command.Move.TheVariants.{Step, Back, StepStatement, BackStatement, Goto, Next, ReverseNext, NextStatement, ReverseNextStatement, Continue, ReverseContinue, Until}
use Rattle.l6_session.specs.declared.command.Setting.TheVariants.{Break, BreakIf, Condition, TemporaryBreak, Delete, Watch, Unwatch, UnwatchThis, Display, Undisplay, UndisplayChain}
use Rattle.l6_session.specs.declared.command.View.TheVariants.{Print, Label, PrintLabel, Block, WhereFew, DrawAll, ListBefore, ListNear, ListCards, Set, Ignore, Commands}
use Rattle.l6_session.specs.declared.command.Verb.{Verb}
use Rattle.l6_session.specs.declared.command.Verb.TheVariants as verb
use Rattle.l6_session.specs.declared.command.Reading.{Reading}
use Rattle.l6_session.specs.declared.command.Reading.TheVariants.{Skipped, Wrong, Nearly, Unfit, NoStatement, NoChain, NoFile, NoTest, HelpOn, Asked}

-- what a command and a number ask for
abbrev pub numbered : Verb → ℕ → Reading
numbered verb.Step n = moved (StepStatement n)
numbered verb.Back n = moved (BackStatement n)
numbered verb.StepState n = moved (Step n)
numbered verb.BackState n = moved (Back n)
numbered verb.Next n = moved (NextStatement n)
numbered verb.ReverseNext n = moved (ReverseNextStatement n)
numbered verb.NextState n = moved (Next n)
numbered verb.ReverseNextState n = moved (ReverseNext n)
numbered verb.Continue n = moved (Continue n)
numbered verb.ReverseContinue n = moved (ReverseContinue n)
numbered verb.Goto n = moved (Goto n)
numbered verb.Where n = shown (WhereFew n)
numbered other n = Unfit other

abbrev pub numbered_if : Verb → Option ℕ → Reading
numbered_if given (Some n) = numbered given n
numbered_if given None = Unfit given

abbrev pub with_number : Verb → List ℕ → Reading
with_number given word = numbered_if given (number_of word)

-- a dollar before a bug, as before a register in gdb, counts for nothing
abbrev pub without_dollar : List ℕ → List ℕ
without_dollar [] = []
without_dollar (first ∷ rest) = if first == byte "$" then rest else first ∷ rest

-- a command that names a statement, and one that names a chain, or a chain or a number
abbrev pub named : (ℕ → Command) → Option ℕ → Reading
named command (Some statement) = Asked (command statement)
named command None = NoStatement

abbrev pub named_by : {A : Type 0} → (A → Command) → Option A → Reading
named_by command (Some given) = Asked (command given)
named_by command None = NoChain

-- a word of a block, after a star: what leads to the block, and which word it is, 0 without a plus sign
abbrev pub word_index : Option ℕ → Option ℕ
word_index None = None
word_index (Some n) = if nat_lt n unit_size then Some n else None

abbrev pub word_with : Option Operand → Option ℕ → Option (Operand × ℕ)
word_with (Some operand) (Some word) = Some (operand, word)
word_with operand word = None

abbrev pub word_parted : List ℕ → Option (List ℕ × List ℕ) → Option (Operand × ℕ)
word_parted word None = word_with (operand_of (without_dollar word)) (Some 0)
word_parted word (Some (link, digits)) =
    word_with (operand_of (without_dollar link)) (word_index (number_of digits))

abbrev pub word_of : List ℕ → Option (Operand × ℕ)
word_of word = word_parted word (parted (byte "+") word)

abbrev pub after_star : List ℕ → Option (List ℕ)
after_star [] = None
after_star (first ∷ rest) = if first == byte "*" then Some rest else None

-- what is watched: a word of a block, or a chain
abbrev pub watch_word : Option (Operand × ℕ) → Reading
watch_word None = NoChain
watch_word (Some (operand, word)) = Asked (WatchWord operand word)

abbrev pub watch_chain : Option (List ℕ) → Reading
watch_chain chain = named_by (λ c. Setting (Watch (WatchedChain c))) chain

abbrev pub watch_with : List ℕ → Option (List ℕ) → Reading
watch_with word (Some rest) = watch_word (word_of rest)
watch_with word None = watch_chain (chain_of (without_dollar word))

abbrev pub watch_by : List ℕ → Reading
watch_by word = watch_with word (after_star word)

-- what is watched no longer: by its number, or as it is typed; a word of a block then by its place
abbrev pub unwatch_at : Operand → ℕ → Reading
unwatch_at (Number place) word =
    Asked (Setting (UnwatchThis (WatchedWord (record { place = place; word = word }))))
unwatch_at (Chain chain) word = NoChain

abbrev pub unwatch_word : Option (Operand × ℕ) → Reading
unwatch_word (Some (operand, word)) = unwatch_at operand word
unwatch_word None = NoChain

abbrev pub unwatch_chain : Option ℕ → Option (List ℕ) → Reading
unwatch_chain (Some n) chain = Asked (Setting (Unwatch n))
unwatch_chain None (Some chain) = Asked (Setting (UnwatchThis (WatchedChain chain)))
unwatch_chain None None = NoChain

abbrev pub unwatch_with : List ℕ → Option (List ℕ) → Reading
unwatch_with word (Some rest) = unwatch_word (word_of rest)
unwatch_with word None = unwatch_chain (number_of word) (chain_of (without_dollar word))

abbrev pub unwatch_by : List ℕ → Reading
unwatch_by word = unwatch_with word (after_star word)

-- a chain that is displayed no longer, by its number or by its names

abbrev pub undisplay_by : Option ℕ → Option (List ℕ) → Reading
undisplay_by (Some n) chain = Asked (Setting (Undisplay n))
undisplay_by None (Some chain) = Asked (Setting (UndisplayChain chain))
undisplay_by None None = NoChain

-- what is printed: a chain or a number, the statement of a label, or both where a word is both
abbrev pub print_by : Option Operand → Option ℕ → Reading
print_by (Some operand) (Some statement) = shown (PrintLabel operand statement)
print_by (Some operand) None = shown (Print operand)
print_by None (Some statement) = shown (Label statement)
print_by None None = NoChain

-- what is listed: the cards before the last ones; those from one number to another; or those near a
-- statement
abbrev pub list_cards : Option ℕ → Option ℕ → Reading
list_cards (Some first) (Some last) = shown (ListCards (record { first = first; last = last }))
list_cards first last = Unfit verb.List

abbrev pub list_by : Names → List ℕ → Option (List ℕ × List ℕ) → Reading
list_by names word None = named (λ s. View (ListNear s)) (statement_of names word)
list_by names word (Some (first, last)) = list_cards (number_of first) (number_of last)

abbrev pub list_of : Names → List ℕ → Reading
list_of names word =
    if bytes_eq word (codes "-") then shown ListBefore else list_by names word (parted (byte ",") word)

-- a line whose first word begins so is a comment
abbrev pub is_comment : List ℕ → Bool
is_comment [] = false
is_comment (first ∷ rest) = first == byte "#"

-- what follows a slash, as in x/8, counts for nothing
abbrev pub before_slash : List ℕ → List ℕ
before_slash [] = []
before_slash (first ∷ rest) = if first == byte "/" then [] else first ∷ before_slash rest

-- the characters of a word, small letters as capitals, if they are no more than a command's may be
abbrev pub capitals_of : List ℕ → Option (List ℕ)
capitals_of word =
    if nat_lt most_command_word (length (spelled word)) then None else Some (spelled word)

-- the command that a word names
abbrev pub verb_of : List ℕ → Option Verb
verb_of word = capitals_of word >>= named_among verbs

-- what a word is that names no command
abbrev pub nearly : Option Verb → Reading
nearly None = Wrong
nearly (Some near) = Nearly near

abbrev pub unknown : List ℕ → Reading
unknown word = nearly (capitals_of word >>= nearly_among verbs)

-- help on the command that a word names
abbrev pub helped : List ℕ → Option Verb → Reading
helped word None = unknown word
helped word (Some given) = HelpOn given

abbrev pub help_on : List ℕ → Reading
help_on word = helped (before_slash word) (verb_of (before_slash word))

-- what is shown by gdb's name for it
abbrev pub informed : Option Verb → Reading
informed None = Unfit verb.Info
informed (Some given) = alone given

abbrev pub info_on : List ℕ → Reading
info_on word = informed (capitals_of word >>= topic_of)

-- what is drawn: all lines
abbrev pub is_all_spelled : Option (List ℕ) → Bool
is_all_spelled None = false
is_all_spelled (Some word) = bytes_eq word (codes "ALL")

abbrev pub is_all : List ℕ → Bool
is_all word = is_all_spelled (capitals_of word)

abbrev pub draw_of : List ℕ → Reading
draw_of word = if is_all word then shown DrawAll else Unfit verb.Draw

-- what a command and the word after it ask for
abbrev pub with_word : Names → Verb → List ℕ → Reading
with_word names verb.Step word = with_number verb.Step word
with_word names verb.Back word = with_number verb.Back word
with_word names verb.Next word = with_number verb.Next word
with_word names verb.ReverseNext word = with_number verb.ReverseNext word
with_word names verb.StepState word = with_number verb.StepState word
with_word names verb.BackState word = with_number verb.BackState word
with_word names verb.NextState word = with_number verb.NextState word
with_word names verb.ReverseNextState word = with_number verb.ReverseNextState word
with_word names verb.Continue word = with_number verb.Continue word
with_word names verb.ReverseContinue word = with_number verb.ReverseContinue word
with_word names verb.Goto word = with_number verb.Goto word
with_word names verb.Where word = with_number verb.Where word
with_word names verb.Until word = named (λ s. Move (Until s)) (statement_of names word)
with_word names verb.List word = list_of names word
with_word names verb.Break word = named (λ s. Setting (Break s)) (statement_of names word)
with_word names verb.Enable word = named (λ s. Setting (Break s)) (statement_of names word)
with_word names verb.TemporaryBreak word =
    named (λ s. Setting (TemporaryBreak s)) (statement_of names word)
with_word names verb.Delete word = named (λ s. Setting (Delete s)) (statement_of names word)
with_word names verb.Disable word = named (λ s. Setting (Delete s)) (statement_of names word)
with_word names verb.Watch word = watch_by word
with_word names verb.Unwatch word = unwatch_by word
with_word names verb.Display word =
    named_by (λ c. Setting (Display c)) (chain_of (without_dollar word))
with_word names verb.Undisplay word =
    undisplay_by (number_of word) (chain_of (without_dollar word))
with_word names verb.Print word =
    print_by (operand_of (without_dollar word)) (statement_of_label names word)
with_word names verb.Block word =
    named_by (λ o. View (Block o)) (operand_of (without_dollar word))
with_word names verb.Who word = named_by (λ o. Who o) (operand_of (without_dollar word))
with_word names verb.Draw word = draw_of word
with_word names verb.Info word = info_on word
with_word names verb.Help word = help_on word
with_word names verb.Save word = NoFile
with_word names verb.Source word = NoFile
with_word names verb.Set word = shown Set
with_word names verb.Ignore word = shown Ignore
with_word names verb.Commands word = shown Commands
with_word names verb.Condition word = named (λ s. Setting (Condition s None)) (statement_of names word)
with_word names other word = Unfit other

-- the test of a group of a card, with its parentheses
abbrev pub has_parentheses : List ℕ → Bool
has_parentheses word =
    nat_le 2 (length word)
    && (slice_index word 0 == byte "(" && slice_index word (length word - 1) == byte ")")

abbrev pub given_test_of : List ℕ → Option Test
given_test_of word =
    if has_parentheses word then test_of (slice_range word 1 (length word - 1)) else None

-- a command that names a statement and has a test
abbrev pub tested : (ℕ → Test → Command) → Option ℕ → Option Test → Reading
tested command (Some statement) (Some test) = Asked (command statement test)
tested command (Some statement) None = NoTest
tested command None test = NoStatement

-- a breakpoint with a test, which is after the word `if`
abbrev pub is_if_spelled : Option (List ℕ) → Bool
is_if_spelled None = false
is_if_spelled (Some word) = bytes_eq word (codes "IF")

abbrev pub is_if : List ℕ → Bool
is_if word = is_if_spelled (capitals_of word)

abbrev pub break_if : Names → List ℕ → List (List ℕ) → Reading
break_if names place (test ∷ []) =
    tested (λ s t. Setting (BreakIf s t)) (statement_of names place) (given_test_of test)
break_if names place words = NoTest

abbrev pub break_with : Names → List ℕ → List ℕ → List (List ℕ) → Reading
break_with names place word words =
    if is_if word then break_if names place words else Unfit verb.Break

-- a test for a breakpoint
abbrev pub condition_with : Names → List ℕ → List ℕ → List (List ℕ) → Reading
condition_with names place test [] =
    tested (λ s t. Setting (Condition s (Some t))) (statement_of names place) (given_test_of test)
condition_with names place test (more ∷ words) = NoTest

-- what a command and two words ask for, or these and further words
abbrev pub with_words : Names → Verb → List ℕ → List ℕ → List (List ℕ) → Reading
with_words names verb.Set first second words = shown Set
with_words names verb.Ignore first second words = shown Ignore
with_words names verb.Commands first second words = shown Commands
with_words names verb.Condition first second words = condition_with names first second words
with_words names verb.Break first second words = break_with names first second words
with_words names other first second words = Unfit other

-- what a line is whose first word may be a command, by the words after it
abbrev pub reading_by : Names → List ℕ → Option Verb → List (List ℕ) → Reading
reading_by names word None words = unknown word
reading_by names word (Some given) [] = alone given
reading_by names word (Some given) (one ∷ []) = with_word names given one
reading_by names word (Some given) (one ∷ other ∷ more) = with_words names given one other more

-- a line without words is skipped, and so is a comment
abbrev pub reading_from : Names → List (List ℕ) → Reading
reading_from names [] = Skipped
reading_from names (word ∷ words) =
    if is_comment word then Skipped
    else reading_by names (before_slash word) (verb_of (before_slash word)) words

-- the file that a line names which saves a session or obeys the lines of a file, with that command
abbrev pub names_a_file : Verb → Bool
names_a_file verb.Save = true
names_a_file verb.Source = true
names_a_file other = false

abbrev pub file_by : List ℕ → Option Verb → Option (Verb × List ℕ)
file_by file None = None
file_by file (Some given) = if names_a_file given then Some (given, file) else None

abbrev pub file_from : List (List ℕ) → Option (Verb × List ℕ)
file_from (word ∷ file ∷ []) = file_by file (verb_of (before_slash word))
file_from words = None

abbrev pub file_of : List ℕ → Option (Verb × List ℕ)
file_of line = file_from (words_in (without_return line))

-- what a line of commands is
abbrev pub reading_of : Names → List ℕ → Reading
reading_of names line = reading_from names (words_in (without_return line))
