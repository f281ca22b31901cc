use Rattle.std.proofs.Common.{◌≡◌, true, false, take, Some, None, add-one, sym, ap, ◌∙◌, subst, rules}
use Rattle.std.specs.Prelude.{slice_get}
use Rattle.l6_check.specs.Near.{are_near, first_given}
use Rattle.l6_check.proofs.Nearness.{found_at, none_next, none_past}
use Rattle.l6_check.proofs.nearest.nearest_given.Goals.{in-Some+else-are_near, in_default}
use Rattle.l6_check.proofs.nearest.nearest_given.Goals as goal

pub returns-then-are_near : goal.returns-then-are_near
returns-then-are_near c =
    let near : are_near c.args.label.now c.in-Some.near.now ≡ true = search rules in
    ap Some c.label_text.ensures
    ∙ sym (found_at c.args.given.now.entries c.args.label.now c.loop-place.place
    (c.in-Some.near.now, c.in-Some.field-0-1.now) (sym c.in-Some.ensures.entry) c.loop-place.invariant near)

pub loop-place-preserved : goal.loop-place-preserved
loop-place-preserved c =
    let given = c.args.given.now.entries in
    let label = c.args.label.now in
    let place = c.loop-place.place in
    subst (λ n. first_given (take n given) label ≡ None) (sym (add-one place))
    (elim c.match-get_index.branch [
      | in-Some+else-are_near w ↦
          let far : are_near label w.in-Some.near.now ≡ false = search rules in
          none_next given label place (w.in-Some.near.now, w.in-Some.field-0-1.now)
          (sym w.in-Some.ensures.entry) c.loop-place.invariant far
      | in_default w ↦
          let past : slice_get given place ≡ None = search rules in
          none_past given label place past c.loop-place.invariant
    ])
