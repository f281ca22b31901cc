-- The requests that are answered, by the names that the protocol gives their methods.
use Rattle.std.specs.Prelude.{ℕ, List, codes, Option, Some, None, if◌then◌else◌}
use Rattle.std.specs.Str.{bytes_eq}
use Rattle.l6_lsp.specs.declared.asked.Asked.{Asked}
use Rattle.l6_lsp.specs.declared.asked.Asked.TheVariants.{Symbols, Lines, Place}
use Rattle.l6_lsp.specs.declared.asked.LinesAsked.TheVariants.{Fixes, Hints}
use Rattle.l6_lsp.specs.declared.asked.PlaceAsked.TheVariants.{Hover, Definition, References, Highlights, Rename, Completion}

-- what is asked for, unless it is what follows
abbrev pub asked_or : List ℕ → List ℕ → Asked → Option Asked → Option Asked
asked_or method name asked other = if bytes_eq method name then Some asked else other

abbrev pub asked_by : List ℕ → Option Asked
asked_by method =
    asked_or method (codes "textDocument/documentSymbol") Symbols
    (asked_or method (codes "textDocument/codeAction") (Lines Fixes)
    (asked_or method (codes "textDocument/inlayHint") (Lines Hints)
    (asked_or method (codes "textDocument/hover") (Place Hover)
    (asked_or method (codes "textDocument/definition") (Place Definition)
    (asked_or method (codes "textDocument/references") (Place References)
    (asked_or method (codes "textDocument/documentHighlight") (Place Highlights)
    (asked_or method (codes "textDocument/rename") (Place Rename)
    (asked_or method (codes "textDocument/completion") (Place Completion) None))))))))
