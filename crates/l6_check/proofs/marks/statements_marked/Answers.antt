use Rattle.std.proofs.Common.{◌≡◌, ◌∙◌, ap, length, drop, replicate, false, rules}
use Rattle.std.specs.List.{flat_map}
use Rattle.l6_check.specs.inner.Marks.{is_marked, marked}
use Rattle.l6_check.proofs.Marking.{fresh_marked, written}
use Rattle.l6_check.proofs.marks.statements_marked.Goals as goal

pub returns : goal.returns
returns g c number within =
    let numbers = g.M.Marker.numbers in
    let program = c.args.program.now in
    let statements = c.statements-statements.result.now in
    let new = c.mark_each.new.marks in
    let long : length new ≡ c.in_ok-marks.marks.len = search rules in
    let fresh : c.deref_mut.result.now ≡ replicate (length statements) false = search rules in
    let all : statements ≡ program = c.statements-statements.ensures.value in
    ap (λ m. is_marked m number)
    (written c.in_ok-marks.marks.len new (drop (length new) c.in_ok-marks.marks.items) long
    ∙ c.mark_each.ensures
    ∙ ap (λ m. marked m (flat_map numbers statements)) fresh
    ∙ ap (λ s. marked (replicate (length s) false) (flat_map numbers s)) all)
    ∙ fresh_marked (length program) (flat_map numbers program) number within
