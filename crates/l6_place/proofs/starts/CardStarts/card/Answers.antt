use Rattle.std.proofs.Common.{◌≡◌, ◌≤◌, ◌+◌, ◌-◌, ◌∷◌, length, take, drop, ap, arith, length-drop, length-take}
use Rattle.l6_word.specs.Lines.{lines_of}
use Rattle.l6_place.proofs.Beginnings.{found_fits}
use Rattle.l6_place.proofs.starts.CardStarts.card.Goals as goal

pub returns-in-Some-clause-within : goal.returns-in-Some-clause-within
returns-in-Some-clause-within c =
    let deck = c.self.inside.deck.now in
    let start = c.offset.result in
    let part = take (length deck - start) (drop start deck) in
    let line = c.in-Some.line.now in
    let fits : length line ≤ length part
    = found_fits part line (lines_of c.in-Some.field-0-1.now) c.in-Some.ensures.lines in
    omega (
      arith,
      fits,
      length-take (length deck - start) (drop start deck),
      length-drop start deck,
      ap length c.self.view_is,
      c.offset.ensures.value,
      c.offset.ensures.within,
      c.without_return.ensures.shorter,
    )
