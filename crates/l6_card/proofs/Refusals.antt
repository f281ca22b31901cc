-- What an item objects that a builder refuses.
use Rattle.std.proofs.Common.{◌≡◌, ℕ, List, [], ◌∷◌, map, Result, Err, sym, ap, ◌∙◌}
use Rattle.l6_card.specs.declared.objection.Objection.{Objection}
use Rattle.l6_card.specs.declared.objection.Reason.{Reason}
use Rattle.l6_card.specs.declared.objection.Reason.TheVariants.{Unclosed, Unopened, TooManyGroups}
use Rattle.l6_card.specs.DeckFault.{form, limit}
use Rattle.l6_card.specs.Items.{Item, group, word, unclosed, unopened}
use Rattle.l6_card.specs.Objection.{objects, item_objects}
use Rattle.l6_card.specs.Order.{reason_at}
use Rattle.l6_card.specs.Pieces.{item}
use Rattle.l6_card.specs.inner.StatementBuilder.{expected_in, with_item}
use Rattle.l6_card.specs.inner.Pass.{Stage, when_built, after_piece, after_pieces}
use Rattle.l6_card.specs.inner.Token.{OpensFirst, ClosesAt}

-- an item whose form is wrong
pub form_objects : (i : Item) (card fault_card : ℕ) (known : Stage) (reason : Reason) →
    with_item card known.builder i ≡ Err (form fault_card) →
    reason ≡ reason_at (expected_in known.builder) i →
    after_piece known (item card i) ≡ Err (item_objects known.body i reason)
form_objects i card fault_card known reason made is_reason =
    ap (λ m. when_built i m known) made
    ∙ ap (λ (r : Reason). Err (item_objects known.body i r)) (sym is_reason)

-- an item that is past a limit
pub limit_objects : (i : Item) (card fault_card : ℕ) (known : Stage) →
    with_item card known.builder i ≡ Err (limit fault_card) →
    after_piece known (item card i) ≡ Err (item_objects known.body i TooManyGroups)
limit_objects i card fault_card known made = ap (λ m. when_built i m known) made

-- one piece of a card objects, by numbers that are the same
pub same_place : (card from from' to to' : ℕ) (reason : Reason) → from ≡ from' → to ≡ to' →
    ◌≡◌ {A = Result Stage Objection} (Err (objects card from to reason))
    (Err (objects card from' to' reason))
same_place card from from' to to' reason froms tos =
    ap (λ f. Err (objects card f to reason)) froms ∙ ap (λ t. Err (objects card from' t reason)) tos

-- a `(` that no `)` closes is where the pass stops
pub unclosed_objects : (card opening : ℕ) (known : Stage) (items : List Item)
    (pass : Result Stage Objection) →
    OpensFirst opening items → after_pieces known (map (item card) items) ≡ pass →
    pass ≡ Err (item_objects known.body (unclosed opening) Unclosed)
unclosed_objects card opening known [] pass opens before = absurd opens
unclosed_objects card opening known (group at columns ∷ items) pass opens before = absurd opens
unclosed_objects card opening known (word at past columns ∷ items) pass opens before = absurd opens
unclosed_objects card opening known (unopened at columns ∷ items) pass opens before = absurd opens
unclosed_objects card opening known (unclosed at ∷ items) pass opens before =
    sym before ∙ ap (λ o. Err (item_objects known.body (unclosed o) Unclosed)) opens

-- so is a `)` that no `(` opens
pub unopened_objects : (card closing : ℕ) (known : Stage) (items : List Item)
    (pass : Result Stage Objection) →
    ClosesAt closing items → after_pieces known (map (item card) items) ≡ pass →
    pass ≡ Err (item_objects known.body (unopened closing []) Unopened)
unopened_objects card closing known [] pass closes before = absurd closes
unopened_objects card closing known (group at columns ∷ items) pass closes before = absurd closes
unopened_objects card closing known (word at past columns ∷ items) pass closes before = absurd closes
unopened_objects card closing known (unclosed at ∷ items) pass closes before = absurd closes
unopened_objects card closing known (unopened at columns ∷ items) pass closes before =
    sym before ∙ ap (λ o. Err (item_objects known.body (unopened o []) Unopened)) closes
