-- The breakpoints that an editor asks for, and those at which one stops then.
use Rattle.std.specs.Prelude.{◌≡◌, ◌<◌, ℕ, ◌+◌, ◌==◌, nat_lt, Bool, true, false, ◌&&◌, List, [], ◌∷◌, ◌++◌, length, map, codes, decimal, Option, Some, None, is_none, unwrap_or, slice_get, slice_index_or, filter_map, Result, Ok, Err, if◌then◌else◌}
use Rattle.std.specs.List.{list_any}
use Rattle.std.specs.Option.{option_or}
use Rattle.std.specs.Result.{result_ok}
use Rattle.serde_json.specs.Data.{Data, array, boolean, number, unsigned, string, object, member, no_members}
use Rattle.serde_json.specs.View.{items_of}
use Rattle.l6_group.specs.Test.{test_of}
use Rattle.l6_place.specs.Cards.{first_cards}
use Rattle.l6_prog.specs.declared.condition.Test.{Test}
use Rattle.l6_session.specs.Names.{Names, statement_of}
use Rattle.l6_session.specs.Reading.{given_test_of}
use Rattle.l6_session.specs.SessionState.{SessionState}
use Rattle.l6_dap.specs.Debugged.{Debugged}
use Rattle.l6_dap.specs.Members.{number_in, text_in}
use Rattle.l6_dap.specs.Paths.{is_of_other}
use Rattle.l6_dap.specs.Trimmed.{trimmed}
use Rattle.l6_dap.specs.declared.breakpoints.Kind.{Kind}
use Rattle.l6_dap.specs.declared.breakpoints.Kind.TheVariants.{OnCards, OnLabels}
use Rattle.l6_dap.specs.declared.breakpoints.Unset.{Unset}
use Rattle.l6_dap.specs.declared.breakpoints.Unset.TheVariants.{OtherDeck, NoStatement, NoLabel, NoTest}
use Rattle.l6_dap.specs.declared.debuggee.Breakpoint.{Breakpoint}

-- the first of some statements that begins below a card, where these are their first cards, and the number of the first
abbrev pub first_below : ℕ → ℕ → List ℕ → Option ℕ
first_below index card [] = None
first_below index card (first ∷ others) =
    if nat_lt card first then Some index else first_below (index + 1) card others

-- the statement of the card of this number, or else the one that begins next below it
abbrev pub statement_from : Names → ℕ → Option ℕ
statement_from names card =
    option_or (statement_of names (codes ":" ++ decimal card)) (first_below 0 card (first_cards names.deck))

-- the statement at which a breakpoint is asked for
abbrev pub statement_asked : Kind → Names → Data → Option ℕ
statement_asked OnCards names entry = statement_from names (unwrap_or (number_in (codes "line") entry) 0)
statement_asked OnLabels names entry = statement_of names (unwrap_or (text_in (codes "name") entry) [])

-- the test that a condition is: its group, with parentheses or without
abbrev pub test_in : List ℕ → Option Test
test_in text = option_or (given_test_of text) (test_of text)

-- a breakpoint at a statement, with the test that a condition is
abbrev pub tested_at : ℕ → Option Test → Result Breakpoint Unset
tested_at statement None = Err NoTest
tested_at statement (Some test) = Ok (record { statement = statement; test = Some test })

-- a breakpoint at a statement, where an empty condition is none
abbrev pub at_statement : ℕ → Option (List ℕ) → Result Breakpoint Unset
at_statement statement None = Ok (record { statement = statement; test = None })
at_statement statement (Some []) = Ok (record { statement = statement; test = None })
at_statement statement (Some (first ∷ others)) = tested_at statement (test_in (trimmed (first ∷ others)))

-- why there is no statement
abbrev pub why_none : Kind → Unset
why_none OnCards = NoStatement
why_none OnLabels = NoLabel

-- the breakpoint that an entry of a request asks for, or why it is not set
abbrev pub set_where : Kind → Option ℕ → Option (List ℕ) → Result Breakpoint Unset
set_where kind None condition = Err (why_none kind)
set_where kind (Some statement) condition = at_statement statement condition

abbrev pub asked : Kind → Names → Data → Result Breakpoint Unset
asked kind names entry =
    set_where kind (statement_asked kind names entry) (text_in (codes "condition") entry)

-- all that the entries of a request ask for
abbrev pub all_asked : Kind → Names → List Data → List Breakpoint
all_asked kind names entries = filter_map (λ entry. result_ok (asked kind names entry)) entries

-- what is said of one that is not set
abbrev pub why_text : Unset → List ℕ
why_text OtherDeck = codes "another deck runs"
why_text NoStatement = codes "no statement begins here or below"
why_text NoLabel = codes "no card gives this label"
why_text NoTest = codes "a condition is a test, as (A,E,5)"

-- what is said of one that is set: its statement, and the first card of that
abbrev pub set_at : List ℕ → ℕ → Option ℕ → Data
set_at path statement None = object
    (member (codes "id") (number (unsigned statement))
    (member (codes "verified") (boolean true) no_members))
set_at path statement (Some card) = object
    (member (codes "id") (number (unsigned statement))
    (member (codes "line") (number (unsigned card))
    (member (codes "source") (object (member (codes "path") (string path) no_members))
    (member (codes "verified") (boolean true) no_members))))

abbrev pub unverified : List ℕ → Data
unverified why = object
    (member (codes "message") (string why)
    (member (codes "verified") (boolean false) no_members))

abbrev pub said_of : List ℕ → Names → Result Breakpoint Unset → Data
said_of path names (Err why) = unverified (why_text why)
said_of path names (Ok one) = set_at path one.statement (slice_get (first_cards names.deck) one.statement)

-- what is said of all entries, in their order
abbrev pub body_of : Data → Data
body_of said = object (member (codes "breakpoints") said no_members)

abbrev pub all_said : Kind → List ℕ → Names → List Data → List Data
all_said kind path names entries = map (λ entry. said_of path names (asked kind names entry)) entries

abbrev pub said_of_all : Kind → List ℕ → Names → List Data → Data
said_of_all kind path names entries = body_of (array (items_of (all_said kind path names entries)))

-- a breakpoint is asked for at a statement
abbrev pub is_asked : ℕ → List Breakpoint → Bool
is_asked statement all = list_any (λ one. one.statement == statement) all

-- one without a test is
abbrev pub is_plain : ℕ → List Breakpoint → Bool
is_plain statement all = list_any (λ one. one.statement == statement && is_none one.test) all

-- the last test that is asked for there
abbrev pub last_test : ℕ → List Breakpoint → Option Test
last_test statement [] = None
last_test statement (one ∷ others) =
    option_or (last_test statement others) (if one.statement == statement then one.test else None)

-- the test there: the last one, but none where a breakpoint without a test is asked for, too
abbrev pub test_asked : ℕ → List Breakpoint → Option Test
test_asked statement all = if is_plain statement all then None else last_test statement all

-- one stops at the breakpoints that are asked for, and at no others; none is removed where it is reached
pub record StopsJustAt (all : List Breakpoint) (state : SessionState) : Type 0 where
  pub breakpoints : (statement : ℕ) → statement < length state.stop.breakpoints →
      slice_index_or state.stop.breakpoints statement false ≡ is_asked statement all
  pub tests : (statement : ℕ) → statement < length state.stop.breakpoints →
      slice_index_or state.stop.tests statement None ≡ test_asked statement all
  pub temporary : (statement : ℕ) → statement < length state.stop.breakpoints →
      slice_index_or state.temporary statement false ≡ false

-- all else of a session is as it was
abbrev pub with_stops_of : SessionState → SessionState → SessionState
with_stops_of old new = record old {
  stop = record old.stop { breakpoints = new.stop.breakpoints; tests = new.stop.tests };
  temporary = new.temporary;
}

-- a run with these breakpoints of a kind, and with those that entries ask for
abbrev pub with_wanted : Kind → List Breakpoint → Debugged → Debugged
with_wanted OnCards all old = record old { on_cards = all }
with_wanted OnLabels all old = record old { on_labels = all }

abbrev pub with_asked : Kind → List Data → Debugged → Debugged
with_asked kind entries old = with_wanted kind (all_asked kind old.names entries) old

-- one stops at just the breakpoints of a run that are asked for, and all else is as it was
pub record StopsAsAsked (old new : Debugged) : Type 0 where
  pub others : new ≡ record old { run = new.run }
  pub context : new.run.context ≡ old.run.context
  pub state : new.run.state ≡ with_stops_of old.run.state new.run.state
  pub statements : length new.run.state.stop.breakpoints ≡ length old.run.state.stop.breakpoints
  pub stops : StopsJustAt (old.on_cards ++ old.on_labels) new.run.state

-- breakpoints are set: of this kind those that entries ask for, and those of the other kind stay
pub record Sets (kind : Kind) (entries : List Data) (old new : Debugged) (said : Data) : Type 0 where
  pub is_said : said ≡ said_of_all kind old.path old.names entries
  pub stops : StopsAsAsked (with_asked kind entries old) new

-- they are of another deck: none is set, and nothing changes
abbrev pub all_elsewhere : List Data → Data
all_elsewhere entries =
    body_of (array (items_of (map (λ entry. unverified (why_text OtherDeck)) entries)))

abbrev pub PassesOver : List Data → Debugged → Debugged → Data → Type 0
PassesOver entries old new said = (said ≡ all_elsewhere entries) × (new ≡ old)

-- whether entries of this kind are about another deck: editors send the breakpoints of each file apart
abbrev pub are_elsewhere : Kind → List ℕ → Option (List ℕ) → Bool
are_elsewhere OnCards path source = is_of_other path source
are_elsewhere OnLabels path source = false

abbrev pub SetsUnless : Bool → Kind → List Data → Debugged → Debugged → Data → Type 0
SetsUnless true kind entries old new said = PassesOver entries old new said
SetsUnless false kind entries old new said = Sets kind entries old new said
