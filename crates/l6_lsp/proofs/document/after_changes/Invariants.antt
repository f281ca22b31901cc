use Rattle.std.proofs.Common.{◌≡◌, drop}
use Rattle.serde_json.specs.View.{items_view}
use Rattle.l6_lsp.specs.Document as spec
use Rattle.l6_lsp.proofs.document.after_changes.Given as goal

-- the changes that are left make the whole of what was done
abbrev pub invariant-loop-change : goal.invariant-loop-change
invariant-loop-change l =
    spec.after_changes l.current.items (items_view (drop l.change-index l.change-items))
    ≡ spec.after_changes l.text (items_view l.change-items)
