-- Any allocator's answers, judged by where blocks may be alone: its rule of choice plays no part.
use Rattle.std.specs.Prelude.{◌≡◌, ℕ, ◌+◌, ◌-◌, ◌*◌, ◌^◌, ◌<◌, ◌≤◌, ◌==◌, if◌then◌else◌, List, [], ◌∷◌, replicate, slice_get, slice_set, Option, Some, None, refl}
use Rattle.std.specs.Coded.{Coded, code_by, coded×, coded_ℕ, coded_list, coded_option}
use Rattle.std.specs.Option.{option_map}
use Rattle.l6_places.specs.Board.{Board, board_code, IsLowest, IsOpen, IsOpenLevel, fresh, level_at, released, taken}
use Rattle.l6_places.specs.Hindrance.{Hinders}
use Rattle.l6_places.specs.declared.board.Hindrance.{Hindrance}
use Rattle.l6_trace.specs.declared.call.Call.{Call}
use Rattle.l6_trace.specs.declared.call.Call.TheVariants as calls
use Rattle.l6_trace.specs.declared.call.Line.{Line}
use Rattle.l6_trace.specs.declared.call.Reply.{Reply}
use Rattle.l6_trace.specs.declared.call.Reply.TheVariants as replies
use Rattle.l6_trace.specs.declared.finding.Finding.{Finding}
use Rattle.l6_trace.specs.declared.finding.Finding.TheVariants as findings
use Rattle.l6_trace.specs.declared.ending.End.{End}
use Rattle.l6_trace.specs.declared.judge.Holding.{Holding}
use Rattle.l6_trace.specs.declared.judge.Holding.TheVariants as holdings
use Rattle.l6_trace.specs.declared.judge.Pool.{Pool}
use Rattle.l6_trace.specs.Ending.{ending_of, ending_findings}

-- what a name holds, as a value: no block, or one that is at a place where none may be, or one that is on
-- the board
abbrev pub as_option : Holding → Option (Option ℕ)
as_option holdings.NoBlock = None
as_option holdings.Misplaced = Some None
as_option (holdings.At place) = Some (Some place)

abbrev pub from_option : Option (Option ℕ) → Holding
from_option None = holdings.NoBlock
from_option (Some None) = holdings.Misplaced
from_option (Some (Some place)) = holdings.At place

pub same_holding : (holding : Holding) → from_option (as_option holding) ≡ holding
same_holding holdings.NoBlock = refl
same_holding holdings.Misplaced = refl
same_holding (holdings.At place) = refl

abbrev pub holding_code : Coded Holding
holding_code =
    code_by (Option (Option ℕ)) (coded_option (coded_option coded_ℕ)) as_option from_option same_holding

-- the board, the largest level of a block, and what each name of the trace holds
pub record Judging : Type 0 where
  pub board : Board
  pub largest : ℕ
  pub held : List Holding

abbrev pub judging_code : Coded Judging
judging_code =
    code_by (Board × (ℕ × List Holding)) (coded× board_code (coded× coded_ℕ (coded_list holding_code)))
    (λ j. (j.board, (j.largest, j.held)))
    (λ p. record { board = p.0; largest = p.1.0; held = p.1.1 }) (λ _. refl)

-- before the first line there is no block: so many units of 2^largest places from the first one on are given out
abbrev pub IsEmpty : ℕ → ℕ → ℕ → ℕ → Judging → Type 0
IsEmpty largest units first names judging =
    (top : ℕ) × (judging.board ≡ fresh top first (first + units * 2 ^ largest))
    × (judging.largest ≡ largest) × (judging.held ≡ replicate names holdings.NoBlock)

-- what the name of a number holds: nothing where there is no such name
abbrev pub held_by : Option Holding → Holding
held_by (Some holding) = holding
held_by None = holdings.NoBlock

abbrev pub holding : Judging → ℕ → Holding
holding judging block = held_by (slice_get judging.held block)

-- the same, but for one name, which holds something else; and with a block that is put on the board or taken
-- from it
abbrev pub holds : Judging → ℕ → Holding → Judging
holds judging block held = record judging { held = slice_set judging.held block held }

abbrev pub placed : Judging → ℕ → ℕ → ℕ → Judging
placed judging block level place =
    record (holds judging block (holdings.At place)) { board = taken judging.board level place }

abbrev pub freed : Judging → ℕ → ℕ → Judging
freed judging block place =
    record (holds judging block holdings.NoBlock) { board = released judging.board place }

-- the level of the least block that has so many words, or none where no block has so many
abbrev pub IsLeastLevel : ℕ → ℕ → Option ℕ → Type 0
IsLeastLevel largest words (Some level) =
    (level ≤ largest) × (words ≤ 2 ^ level)
    × ((lower : ℕ) → lower < level → 2 ^ lower < words)
IsLeastLevel largest words None = 2 ^ largest < words

-- a size that is not the block's
abbrev pub size_finding : ℕ → Option ℕ → Option Finding
size_finding level None = None
size_finding level (Some size) =
    if size == 2 ^ level then None else Some (findings.WrongSize (2 ^ level))

-- a get of a level that was answered with a place is right if the place is open, and the block is on the board
-- then. Else it is said what is in the way, and the block is not on the board
abbrev pub IsPlaced : Judging → ℕ → ℕ → ℕ → Option ℕ → Option Finding → Judging → Type 0
IsPlaced old block level place size found new =
    (IsOpen old.board (2 ^ level) place
    → (found ≡ size_finding level size) × (new ≡ placed old block level place))
    × ((IsOpen old.board (2 ^ level) place → ⊥)
    → (new ≡ holds old block holdings.Misplaced)
    × ((hindrance : Hindrance) × Hinders old.board level place hindrance
    × (found ≡ Some (findings.Hindered hindrance))))

-- a get that was answered with a place: no block has so many words as were asked for, where there is no level
abbrev pub IsGiven : Judging → ℕ → Option ℕ → ℕ → Option ℕ → Option Finding → Judging → Type 0
IsGiven old block (Some level) place size found new = IsPlaced old block level place size found new
IsGiven old block None place size found new =
    (found ≡ Some findings.TooLarge) × (new ≡ holds old block holdings.Misplaced)

-- a get that was refused is right if no place is open; else the lowest open place is named
abbrev pub IsRefused : Judging → Option ℕ → Option Finding → Type 0
IsRefused old (Some level) found =
    (open_place : Option ℕ) × IsLowest old.board (2 ^ level) open_place
    × (found ≡ option_map findings.Refused open_place)
IsRefused old None found = found ≡ None

-- a get by a name that holds no block, by its answer
abbrev pub IsGot : Judging → ℕ → Option ℕ → Option Reply → Option Finding → Judging → Type 0
IsGot old block level (Some (replies.At place size)) found new =
    IsGiven old block level place size found new
IsGot old block level (Some replies.Nothing) found new = IsRefused old level found × (new ≡ old)
IsGot old block level (Some replies.Between) found new =
    (found ≡ Some findings.Between) × (new ≡ holds old block holdings.Misplaced)
IsGot old block level (Some (replies.Joined joined)) found new =
    (found ≡ Some findings.Unanswered) × (new ≡ old)
IsGot old block level None found new = (found ≡ Some findings.Unanswered) × (new ≡ old)

abbrev pub IsGotBy : Holding → Judging → ℕ → ℕ → Option Reply → Option Finding → Judging → Type 0
IsGotBy holdings.NoBlock old block words reply found new =
    (level : Option ℕ) × IsLeastLevel old.largest words level
    × IsGot old block level reply found new
IsGotBy holdings.Misplaced old block words reply found new =
    (found ≡ Some findings.Held) × (new ≡ old)
IsGotBy (holdings.At place) old block words reply found new =
    (found ≡ Some findings.Held) × (new ≡ old)

-- how often the piece of a block is joined when it is freed: as often as its level is below that of the open piece
-- that has its place then
abbrev pub joined_by : ℕ → Option ℕ → ℕ
joined_by level (Some open_level) = open_level - level
joined_by level None = 0

-- another number of joinings than that
abbrev pub join_finding : ℕ → Option Reply → Option Finding
join_finding right (Some (replies.Joined joined)) =
    if joined == right then None else Some (findings.NotJoined right)
join_finding right (Some (replies.At place size)) = None
join_finding right (Some replies.Nothing) = None
join_finding right (Some replies.Between) = None
join_finding right None = None

-- a free of a block on the board, by its level
abbrev pub IsReleased : Judging → ℕ → ℕ → Option ℕ → Option Reply → Option Finding → Judging → Type 0
IsReleased old block place (Some level) reply found new =
    (new ≡ freed old block place)
    × ((open_level : Option ℕ) × IsOpenLevel (released old.board place) old.largest place open_level
    × (found ≡ join_finding (joined_by level open_level) reply))
IsReleased old block place None reply found new = (found ≡ Some findings.NotHeld) × (new ≡ old)

-- a free, by what its name holds: one of a misplaced block is right
abbrev pub IsFreedBy : Holding → Judging → ℕ → Option Reply → Option Finding → Judging → Type 0
IsFreedBy holdings.NoBlock old block reply found new = (found ≡ Some findings.NotHeld) × (new ≡ old)
IsFreedBy holdings.Misplaced old block reply found new =
    (found ≡ None) × (new ≡ holds old block holdings.NoBlock)
IsFreedBy (holdings.At place) old block reply found new =
    IsReleased old block place (level_at old.board place) reply found new

-- a call and its answer: what is found, and what there is then. What only shows the store is not judged
abbrev pub IsAnswered : Judging → Call → Option Reply → Option Finding → Judging → Type 0
IsAnswered old (calls.Get block words) reply found new =
    IsGotBy (holding old block) old block words reply found new
IsAnswered old (calls.Free block) reply found new =
    IsFreedBy (holding old block) old block reply found new
IsAnswered old calls.Lists reply found new = (found ≡ None) × (new ≡ old)
IsAnswered old calls.Map reply found new = (found ≡ None) × (new ≡ old)
IsAnswered old calls.Stats reply found new = (found ≡ None) × (new ≡ old)

-- the lines of a trace, one after another: each is judged by the state that those before it led to
abbrev pub IsJudged : Judging → List Line → List (Option Finding) → Judging → Type 0
IsJudged first [] [] last = last ≡ first
IsJudged first [] (found ∷ founds) last = ⊥
IsJudged first (line ∷ lines) [] last = ⊥
IsJudged first (line ∷ lines) (found ∷ founds) last =
    (next : Judging) × IsAnswered first line.call line.reply found next
    × IsJudged next lines founds last

-- how many of these are findings
abbrev pub findings_of : Option Finding → ℕ
findings_of None = 0
findings_of (Some finding) = 1

abbrev pub findings_in : List (Option Finding) → ℕ
findings_in [] = 0
findings_in (found ∷ founds) = findings_in founds + findings_of found

-- what is found of the lines of a trace of so many names and of its end, by a pool that is empty at first: so many
-- findings
abbrev pub IsJudgement : Pool → ℕ → List Line → Option End → ℕ → Type 0
IsJudgement pool names lines end count =
    (first : Judging) × (last : Judging) × (founds : List (Option Finding))
    × IsEmpty pool.largest pool.units pool.first names first
    × IsJudged first lines founds last
    × (count ≡ findings_in founds + ending_findings (ending_of lines end))
