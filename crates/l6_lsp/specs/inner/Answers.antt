-- What is known of the answers to what is asked of a document.
use Rattle.std.specs.Prelude.{ℕ, List, ⊤, codes}
use Rattle.serde_json.specs.Data.{Data}
use Rattle.serde_json.specs.View.{view}
use Rattle.serde_json.specs.declared.value.Value.{Value}
use Rattle.l6_lsp.specs.declared.asked.Asked.{Asked}
use Rattle.l6_lsp.specs.declared.asked.Asked.TheVariants.{Symbols, Lines, Place}
use Rattle.l6_lsp.specs.declared.asked.LinesAsked.{LinesAsked}
use Rattle.l6_lsp.specs.declared.asked.LinesAsked.TheVariants.{Fixes, Hints}
use Rattle.l6_lsp.specs.declared.asked.PlaceAsked.{PlaceAsked}
use Rattle.l6_lsp.specs.declared.asked.PlaceAsked.TheVariants.{Hover, Definition, References, Highlights, Rename, Completion}
use Rattle.l6_lsp.specs.Fixes.{AreFixes}
use Rattle.l6_lsp.specs.Parameters.{text_at}
use Rattle.l6_lsp.specs.Renaming.{IsRenaming}

-- an answer to what a message asks of a place in a document with this name and text
abbrev pub IsPlaceAnswer : PlaceAsked → List ℕ → List ℕ → Data → Value → Type 0
IsPlaceAnswer Rename uri text message value =
    IsRenaming uri text (text_at (codes "/params/newName") message) (view value)
IsPlaceAnswer Hover uri text message value = ⊤
IsPlaceAnswer Definition uri text message value = ⊤
IsPlaceAnswer References uri text message value = ⊤
IsPlaceAnswer Highlights uri text message value = ⊤
IsPlaceAnswer Completion uri text message value = ⊤

-- an answer to what is asked of lines of a document with this name and text
abbrev pub IsLinesAnswer : LinesAsked → List ℕ → List ℕ → Value → Type 0
IsLinesAnswer Fixes uri text value = AreFixes uri text (view value)
IsLinesAnswer Hints uri text value = ⊤

-- an answer to what a message asks of a document with this name and text
abbrev pub IsAnswer : Asked → List ℕ → List ℕ → Data → Value → Type 0
IsAnswer Symbols uri text message value = ⊤
IsAnswer (Lines asked) uri text message value = IsLinesAnswer asked uri text value
IsAnswer (Place asked) uri text message value = IsPlaceAnswer asked uri text message value
