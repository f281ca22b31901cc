use Rattle.std.proofs.Common.{◌≡◌, ◌≤◌, ◌-◌, ℕ, List, length, take, drop, ap, sym, ◌∙◌, arith, take_all, length-drop}
use Rattle.l6_place.specs.Cards as spec
use Rattle.l6_place.specs.inner.Starts.{IsStartOf}
use Rattle.l6_place.proofs.Beginnings.{spot_from}
use Rattle.l6_place.proofs.starts.CardStarts.spot.Goals as goal

pub returns-in-Some : goal.returns-in-Some
returns-in-Some c =
    let deck = c.args.self.now in
    let held = c.self.inside.deck.now in
    let start = c.in-Some.start in
    let end = c.offset_in-end.result in
    let is : IsStartOf deck c.args.card start = c.in-Some.ensures in
    let rest : take (length held - start.offset) (drop start.offset held) ≡ drop start.offset deck
    = take_all (length held - start.offset) (drop start.offset held)
    (omega (arith, length-drop start.offset held))
    ∙ ap (drop start.offset) c.self.view_is in
    let within : start.offset ≤ spec.before_column deck c.args.card c.args.column = omega (arith, is.offset) in
    c.spot_after-in-Some.ensures
    ∙ ap (spec.spot_after (spec.line_spot start.line) (end - start.offset)) rest
    ∙ ap (λ (n : ℕ). spec.spot_after (spec.line_spot start.line) (n - start.offset) (drop start.offset deck))
    c.offset_in-end.ensures.value
    ∙ spot_from deck c.args.card c.args.column start is within
