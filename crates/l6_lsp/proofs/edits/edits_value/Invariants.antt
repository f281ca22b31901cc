use Rattle.std.proofs.Common.{◌≡◌, map, take}
use Rattle.serde_json.specs.View.{view}
use Rattle.l6_place.specs.declared.spot.Spot.{Spot}
use Rattle.l6_lsp.specs.Edits as spec
use Rattle.l6_lsp.proofs.edits.edits_value.Given as goal

-- the values of the edits that came so far
abbrev pub invariant-loop-start : goal.invariant-loop-start
invariant-loop-start l =
    map view l.list.items
    ≡ map (λ (range : Spot × Spot). spec.edit_value range.0 range.1 l.name) (take l.start-index l.ranges)
