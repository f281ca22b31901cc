use Rattle.std.proofs.Common.{◌≡◌, ◌≤◌, ◌<◌, suc, length, ℕ, Some, None, ap, sym, ◌∙◌, refl, arith}
use Rattle.std.specs.Prelude.{slice_get}
use Rattle.std.proofs.lemmas.Option.{slice_get_past, slice_get_read}
use Rattle.l6_place.specs.inner.Starts.{starts_of}
use Rattle.l6_place.proofs.Beginnings.{starts_at}
use Rattle.l6_place.proofs.starts.CardStarts.start.Goals as goal

pub returns-else-index-len : goal.returns-else-index-len
returns-else-index-len c =
    let starts = c.self.inside.starts.items in
    let index = c.in_ok-index.index in
    let is : starts ≡ starts_of c.args.self.now = c.self.inside.are ∙ ap starts_of c.self.view_is in
    let card : c.args.card ≡ suc index = omega (arith, c.in_ok-index.ensures) in
    let past : length starts ≤ index
    = omega (arith, c.if-index-len.false, c.len.ensures, c.self.inside.starts.ok.0) in
    starts_at c.args.self.now c.args.card index None card
    (ap (λ s. slice_get s index) (sym is) ∙ slice_get_past starts index past)

pub returns-then-index-len : goal.returns-then-index-len
returns-then-index-len c =
    let starts = c.self.inside.starts.items in
    let index = c.in_ok-index.index in
    let start = c.index.result.now in
    let is : starts ≡ starts_of c.args.self.now = c.self.inside.are ∙ ap starts_of c.self.view_is in
    let card : c.args.card ≡ suc index = omega (arith, c.in_ok-index.ensures) in
    let within : index < length starts
    = omega (arith, c.if-index-len.true, c.len.ensures, c.self.inside.starts.ok.0) in
    starts_at c.args.self.now c.args.card index (Some start) card
    (ap (λ s. slice_get s index) (sym is)
    ∙ slice_get_read starts (length starts) index start refl within c.index.ensures)
