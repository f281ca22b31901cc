-- What passes at a console: each line is answered before the next one is read.
use Rattle.std.specs.Prelude.{◌≡◌, ℕ, Bool, true, false, List, [], ◌∷◌, ◌++◌, ◌⊎◌, Option, Some, None, ⊤, if◌then◌else◌}
use Rattle.std.specs.List.{list_all}
use Rattle.l6_group.specs.Character.{is_blank}

-- a line that is given, or a text that is shown
pub data Event : Type 0 where
  given : List ℕ → Event
  shown : List ℕ → Event

-- where it is known what has passed, it goes on with these events
abbrev pub GoesOn : Option (List Event) → Option (List Event) → List Event → Type 0
GoesOn None new events = ⊤
GoesOn (Some before) None events = ⊥
GoesOn (Some before) (Some after) events = after ≡ before ++ events

-- an empty line asks for what the last one asked for
abbrev pub asked : List ℕ → List ℕ → List ℕ
asked last line = if list_all is_blank line then last else line

-- a line, and the text that answers it
abbrev pub Exchange : Type 0
Exchange = List ℕ × List ℕ

-- what passes: a prompt, the line that is given, and the text that answers it, and so on
abbrev pub events_of : List ℕ → List Exchange → List Event
events_of prompt [] = []
events_of prompt ((line, text) ∷ others) =
    shown prompt ∷ given line ∷ shown text ∷ events_of prompt others

-- a session by what texts answer a line, where the line leads, and whether it ends the session
module _ {State : Type 0} (Answers : State → List ℕ → List ℕ → Type 0) (after : State → List ℕ → State)
    (ends : State → List ℕ → Bool) where
  -- exchanges lead from one state to another, and from the last line before them to the last of them
  abbrev pub Lead : State → List ℕ → List Exchange → State → List ℕ → Type 0
  Lead old last [] new newest = (new ≡ old) × (newest ≡ last)
  Lead old last ((line, text) ∷ others) new newest =
      (ends old (asked last line) ≡ false)
      × Answers old (asked last line) text
      × Lead (after old (asked last line)) (asked last line) others new newest

  -- lines were given, and each was answered before the next one was given
  pub record Talked (prompt : List ℕ) (old new : State) (last newest : List ℕ)
      (before passed : Option (List Event)) : Type 0 where
    pub exchanges : List Exchange
    pub lead : Lead old last exchanges new newest
    pub events : GoesOn before passed (events_of prompt exchanges)

  -- after a prompt there was no further line, or one that ends the session
  abbrev pub Ends : List ℕ → State → List ℕ → Option (List Event) → Option (List Event) → Type 0
  Ends prompt state last before passed =
      GoesOn before passed (shown prompt ∷ [])
      ⊎ ((line : List ℕ) × (ends state (asked last line) ≡ true)
      × GoesOn before passed (shown prompt ∷ given line ∷ []))

  -- a conversation up to its end
  pub record Converses (prompt : List ℕ) (old new : State) (before passed : Option (List Event))
      : Type 0 where
    pub newest : List ℕ
    pub between : Option (List Event)
    pub talked : Talked prompt old new [] newest before between
    pub ended : Ends prompt new newest between passed
