-- What may follow items is what may follow in their builder.
use Rattle.std.proofs.Common.{◌≡◌, ℕ, List, [], ◌∷◌, ◌++◌, length, true, cond, eqb, Some, refl, sym, ap, ◌∙◌, append-nil}
use Rattle.std.specs.Prelude.{◌&&◌, not}
use Rattle.l6_prog.specs.declared.condition.Cond.{Cond}
use Rattle.l6_card.specs.Items.{PlacedItem}
use Rattle.l6_card.specs.Order.{Expected, operation_or_exit, first_test, test_or_then, none_after, an_operation, a_test, expected_after}
use Rattle.l6_card.specs.inner.StatementBuilder.{StatementBuilder, Phase, New, Worded, Tested, Open, Closed, new_builder, expected_in_phase, expected_in, builder_of}
use Rattle.l6_card.proofs.Fitness.{is_sound_in, worded_fits, items_sound, new_sound}
use Rattle.l6_card.proofs.Forms.{View, view_of, view_from}
use Rattle.l6_card.proofs.Viewing.{view, items_seen}

-- what may follow items with these views: of them alone, of them with an operation, and with a test
abbrev expected_by : View → View → View → Expected
expected_by alone operated tested =
    cond operated.prefix operation_or_exit
    (cond (not alone.whole) test_or_then
    (cond tested.prefix first_test (none_after (eqb alone.tests 0 && eqb alone.operations 0))))

expected_by_phase : (phase : Phase) (c : Cond) (n m : ℕ) → is_sound_in phase c n ≡ true →
    expected_by (view_from phase c n m []) (view_from phase c n m (an_operation ∷ []))
    (view_from phase c n m (a_test ∷ []))
    ≡ expected_in_phase phase (eqb n 0 && eqb m 0)
expected_by_phase New c n m sound = refl
expected_by_phase (Worded w) c n m sound =
    ap (λ b. cond b first_test (none_after (eqb n 0 && eqb 0 0))) (worded_fits w c n sound)
expected_by_phase Tested c n m sound = refl
expected_by_phase Open c n m sound = refl
expected_by_phase Closed c n m sound = refl

pub expected_seen : (items : List PlacedItem) (builder : StatementBuilder) →
    builder_of new_builder items ≡ Some builder → expected_after items ≡ expected_in builder
expected_seen items builder made =
    let sound = items_sound items new_builder builder new_sound made in
    let alone : view_of items ≡ view builder [] =
    ap view_of (sym (append-nil items)) ∙ items_seen items new_builder builder [] new_sound made in
    let operated : view_of (items ++ an_operation ∷ []) ≡ view builder (an_operation ∷ []) =
    items_seen items new_builder builder (an_operation ∷ []) new_sound made in
    let tested : view_of (items ++ a_test ∷ []) ≡ view builder (a_test ∷ []) =
    items_seen items new_builder builder (a_test ∷ []) new_sound made in
    ap (λ (v : View). expected_by v (view_of (items ++ an_operation ∷ []))
    (view_of (items ++ a_test ∷ []))) alone
    ∙ ap (λ (v : View). expected_by (view builder []) v (view_of (items ++ a_test ∷ []))) operated
    ∙ ap (λ (v : View). expected_by (view builder []) (view builder (an_operation ∷ [])) v) tested
    ∙ expected_by_phase builder.phase builder.condition (length builder.tests)
    (length builder.operations) sound.condition
