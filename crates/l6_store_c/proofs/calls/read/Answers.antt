use Rattle.std.proofs.Common.{ℕ, List, length, ap, ◌∙◌, arith}
use Rattle.std.specs.Prelude.{not}
use Rattle.std.specs.FinMap as map
use Rattle.std.specs.Option.{option_map}
use Rattle.l6_store_c.proofs.Outcomes.{past_word}
use Rattle.l6_store_c.proofs.calls.read.Goals as goal

pub returns-then-index-from-clause-word : goal.returns-then-index-from-clause-word
returns-then-index-from-clause-word c =
    let blocks = c.args.store.now.store.blocks in
    past_word c.live.result (map.get blocks c.args.place) c.args.index
    (c.live.ensures.size
    ∙ ap (λ (place : ℕ). option_map (λ (words : List ℕ). length words) (map.get blocks place))
    c.from.ensures)
    c.live.ensures.level (c.is_none.ensures ∙ ap not c.if-is_none.false)
    (omega (arith, c.if-index-from.true, c.from-2.ensures))
