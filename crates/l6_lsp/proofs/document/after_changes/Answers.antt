use Rattle.std.proofs.Common.{◌≡◌, List, Some, [], drop, sym, ap, ◌∙◌, arith}
use Rattle.std.proofs.lemmas.List.{drop_all}
use Rattle.serde_json.specs.View.{items_view}
use Rattle.serde_json.specs.declared.value.Value.{Value}
use Rattle.l6_lsp.specs.Document as spec
use Rattle.l6_lsp.proofs.document.after_changes.Goals as goal

pub returns : goal.returns
returns c =
    let items = c.deref-change-items.result.now in
    let current = c.loop-change.current.items in
    let left : drop c.loop-change.change-index items ≡ []
    = drop_all c.loop-change.change-index items (omega arith) in
    sym (ap (λ (xs : List Value). spec.after_changes current (items_view xs)) left)
    ∙ c.loop-change.invariant
    ∙ ap (λ (xs : List Value). spec.after_all c.args.text.now (Some (items_view xs)))
    c.deref-change-items.ensures.value
    ∙ ap (spec.after_all c.args.text.now) c.in-Some.ensures
