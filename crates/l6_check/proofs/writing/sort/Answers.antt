use Rattle.std.proofs.Common.{rules}
use Rattle.std.proofs.lemmas.List.Sorted.{IsPermutation-trans, IsNonDecreasingBy-from_sort_by_key, answers_always, ties_still_rise}
use Rattle.l6_check.specs.declared.finding.Finding.{Finding}
use Rattle.l6_check.proofs.writing.sort.Goals as goal

pub returns-clause-same : goal.returns-clause-same
returns-clause-same c =
    IsPermutation-trans _ _ _ c.sort_by_key.ensures.permutation c.sort_by_key-2.ensures.permutation

pub returns-clause-cards : goal.returns-clause-cards
returns-clause-cards c =
    IsNonDecreasingBy-from_sort_by_key (λ (one : Finding). one.card) _ c.in_ok-sort_by_key-2.ensures.sorted
    (λ a r f k. search rules)

pub returns-clause-columns : goal.returns-clause-columns
returns-clause-columns c =
    ties_still_rise (λ (one : Finding). one.span.from) (λ (one : Finding). one.card) _ _
    (c.in_ok-sort_by_key.ensures.sorted (λ (one : Finding). one.span.from)
    (answers_always _ _ _ (λ f a r g h. search rules)))
    (c.sort_by_key-2.ensures.stable (λ (one : Finding). one.card)
    (answers_always _ _ _ (λ f a r g h. search rules)))
