-- The calls that wait, as an editor's stack: where the run is, and where each of them goes on, the latest first.
use Rattle.std.specs.Prelude.{◌≡◌, ℕ, zero, suc, ⊤, List, [], ◌∷◌, ◌++◌, codes, decimal, drop, length, map, take, Option, Some, None, option_and_then, unwrap_or}
use Rattle.serde_json.specs.Data.{Data, array, number, unsigned, string, object, member, no_members}
use Rattle.serde_json.specs.Find.{get}
use Rattle.serde_json.specs.View.{items_of}
use Rattle.l6_group.specs.declared.label.Label.{Label}
use Rattle.l6_session.specs.Texts.{nearest_from}
use Rattle.l6_steps.specs.State.{State}
use Rattle.l6_steps.specs.declared.position.Position.{Position}
use Rattle.l6_dap.specs.Members.{number_in}
use Rattle.l6_dap.specs.Values.{said}

-- a position, after the last label at or before its statement
abbrev pub position_text : Position → List ℕ
position_text at = decimal at.statement ++ codes "." ++ decimal at.action

abbrev pub after_label : Option (Label × ℕ) → Position → List ℕ
after_label None at = position_text at
after_label (Some (label, statement)) at = label ++ codes " " ++ position_text at

abbrev pub place_text : List (Label × ℕ) → Position → List ℕ
place_text labels at = after_label (nearest_from None at.statement labels) at

-- the positions of a state
abbrev pub positions_of : State → List Position
positions_of state = state.at ∷ map (λ waiting. waiting.at) state.memory.returns

-- a frame has this number and this name
pub record IsNamed (count : ℕ) (name : Data) (frame : Data) : Type 0 where
  pub id : get (codes "id") frame ≡ Some (number (unsigned count))
  pub name_is : get (codes "name") frame ≡ Some name

-- it is the frame of a position, by which it is named
abbrev pub IsFrame : List (Label × ℕ) → ℕ → Position → Data → Type 0
IsFrame labels count at frame = IsNamed count (said (place_text labels at)) frame

-- a frame on a card, with the columns of its action or without; and one at the statement that is added to each deck
abbrev pub source : Data → List ℕ → Data
source file path = object (member (codes "name") file (member (codes "path") (string path) no_members))

abbrev pub marked_value : ℕ → Data → Data → List ℕ → ℕ → ℕ → ℕ → Data
marked_value count name file path card first end = object
    (member (codes "column") (number (unsigned first))
    (member (codes "endColumn") (number (unsigned end))
    (member (codes "endLine") (number (unsigned card))
    (member (codes "id") (number (unsigned count))
    (member (codes "line") (number (unsigned card))
    (member (codes "name") name
    (member (codes "source") (source file path) no_members)))))))

abbrev pub carded_value : ℕ → Data → Data → List ℕ → ℕ → Data
carded_value count name file path card = object
    (member (codes "column") (number (unsigned 1))
    (member (codes "id") (number (unsigned count))
    (member (codes "line") (number (unsigned card))
    (member (codes "name") name
    (member (codes "source") (source file path) no_members)))))

abbrev pub added_value : ℕ → Data → Data
added_value count name = object
    (member (codes "column") (number (unsigned 0))
    (member (codes "id") (number (unsigned count))
    (member (codes "line") (number (unsigned 0))
    (member (codes "name") name
    (member (codes "presentationHint") (string (codes "subtle")) no_members)))))

-- frames of positions, one after another, from this number on
abbrev pub AreFrames : List (Label × ℕ) → ℕ → List Position → List Data → Type 0
AreFrames labels count [] [] = ⊤
AreFrames labels count [] (frame ∷ frames) = ⊥
AreFrames labels count (at ∷ others) [] = ⊥
AreFrames labels count (at ∷ others) (frame ∷ frames) =
    IsFrame labels count at frame × AreFrames labels (suc count) others frames

-- the frames that are asked for: those from one of a number on, as many as are wanted; all, where 0 are
abbrev pub wanted : {A : Type 0} → Option ℕ → List A → List A
wanted None all = all
wanted (Some zero) all = all
wanted (Some (suc n)) all = take (suc n) all

abbrev pub first_in : Option Data → ℕ
first_in arguments = unwrap_or (option_and_then (number_in (codes "startFrame")) arguments) 0

abbrev pub most_in : Option Data → Option ℕ
most_in arguments = option_and_then (number_in (codes "levels")) arguments

-- the answer with these frames, of so many
abbrev pub body_of : List Data → ℕ → Data
body_of frames total = object
    (member (codes "stackFrames") (array (items_of frames))
    (member (codes "totalFrames") (number (unsigned total)) no_members))

-- what is answered: the frames of positions from one of a number on, as many as are wanted, and how many there are in all
pub record IsPart (labels : List (Label × ℕ)) (positions : List Position) (first : ℕ) (most : Option ℕ) (body : Data) : Type 0 where
  pub frames : List Data
  pub are : AreFrames labels first (wanted most (drop first positions)) frames
  pub is : body ≡ body_of frames (length positions)

-- those of the stack of a state
abbrev pub IsStack : List (Label × ℕ) → State → Option Data → Data → Type 0
IsStack labels state arguments body =
    IsPart labels (positions_of state) (first_in arguments) (most_in arguments) body
