-- What a fault in reading lines says.
use Rattle.std.specs.Prelude.{◌≡◌, ℕ, List, Some}
use Rattle.l6_image.specs.declared.fault.LoadFault.{LoadFault}
use Rattle.l6_image.specs.declared.fault.LoadFault.TheVariants.{NotWords, NotAnImage, NoMemory}
use Rattle.l6_image.specs.Text.{first_other, whole_lines}

-- this line is the first that is not one of a word; out of memory says nothing; and no other fault
-- comes
abbrev pub TextHasLineFault : List ℕ → LoadFault → Type 0
TextHasLineFault text (NotWords line) = first_other 1 (whole_lines text) ≡ Some line
TextHasLineFault text NotAnImage = ⊥
TextHasLineFault text NoMemory = Unit {0}
