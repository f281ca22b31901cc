use Rattle.std.proofs.Common.{ℕ, List, length, ap, ◌∙◌}
use Rattle.std.specs.FinMap as map
use Rattle.std.specs.Option.{option_map}
use Rattle.l6_store_c.proofs.Outcomes.{apart, not_alike}
use Rattle.l6_store_c.proofs.calls.copy.Goals as goal

pub returns-then-from-to-clause-outcome : goal.returns-then-from-to-clause-outcome
returns-then-from-to-clause-outcome c =
    let blocks = c.args.store.now.store.blocks in
    not_alike c.args.from c.args.to c.in-Some.level c.in-Some-live.other
    (map.get blocks c.args.from) (map.get blocks c.args.to)
    (c.in-Some.ensures.size
    ∙ ap (λ (place : ℕ). option_map (λ (words : List ℕ). length words) (map.get blocks place))
    c.from.ensures)
    (c.in-Some-live.ensures.size
    ∙ ap (λ (place : ℕ). option_map (λ (words : List ℕ). length words) (map.get blocks place))
    c.from-2.ensures)
    (apart c.args.from c.args.to c.in-Some.level c.in-Some-live.other c.then-from-to.either)
