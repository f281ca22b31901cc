-- What becomes of a text that is loaded.
use Rattle.std.specs.Prelude.{◌≡◌, ℕ, List, Some, None, Result, Ok, Err}
use Rattle.l6_prog.specs.Statement.{Parts}
use Rattle.l6_image.specs.declared.fault.LoadFault.{LoadFault}
use Rattle.l6_image.specs.declared.fault.LoadFault.TheVariants.{NotWords, NotAnImage, NoMemory}
use Rattle.l6_image.specs.Text.{IsImage, IsImageOf, first_other, whole_lines}

-- the program is loaded, unless memory ran out
abbrev pub Loads : List Parts → Result (List Parts) LoadFault → Type 0
Loads program (Ok loaded) = loaded ≡ program
Loads program (Err NoMemory) = Unit {0}
Loads program (Err (NotWords line)) = ⊥
Loads program (Err NotAnImage) = ⊥

-- what a fault says of the text: which line is the first that is not one of a word; or that there is
-- none and the text is no image. Out of memory says nothing of it
abbrev pub TextHasFault : List ℕ → LoadFault → Type 0
TextHasFault text (NotWords line) = first_other 1 (whole_lines text) ≡ Some line
TextHasFault text NotAnImage = (first_other 1 (whole_lines text) ≡ None) × (IsImage text → ⊥)
TextHasFault text NoMemory = Unit {0}

-- no text is that of two programs, in whichever versions
abbrev pub ImagesAreOfOneProgram : Type 0
ImagesAreOfOneProgram =
    (text : List ℕ) (one other : List Parts) → IsImageOf text one → IsImageOf text other →
    one ≡ other
