use Rattle.std.proofs.Common.{ℕ, List, length, Ok, refl, ap, ◌∙◌}
use Rattle.std.specs.FinMap as map
use Rattle.std.specs.Option.{option_map}
use Rattle.l6_store_c.proofs.Outcomes.{level_told}
use Rattle.l6_store_c.proofs.calls.live.Goals as goal

pub returns-in-Some-clause-level : goal.returns-in-Some-clause-level
returns-in-Some-clause-level c =
    let blocks = c.args.store.now.store.blocks in
    ap (λ (level : ℕ). Ok level) c.from-in-Some.ensures
    ∙ level_told blocks c.args.place c.in-Some.level (map.get blocks c.args.place) refl
    c.in-Some.ensures.level
    (c.in-Some.ensures.size
    ∙ ap (λ (place : ℕ). option_map (λ (words : List ℕ). length words) (map.get blocks place))
    c.from.ensures)
