use Rattle.std.proofs.Common.{◌≡◌, Bool, List, true, length, replicate, sym, subst, ap, ◌∙◌}
use Rattle.std.specs.List.{each_same}
use Rattle.std.proofs.lemmas.List.{length-replicate}
use Rattle.l6_prog.specs.Statement.{Parts}
use Rattle.l6_history.specs.inner.Changing.{IsTable}
use Rattle.l6_history.proofs.ChangeRows.{first_table}
use Rattle.l6_history.proofs.changing.ChangeTable.new.Goals as goal

-- of no action it is said at first that it changes nothing
pub loop-number-init : goal.loop-number-init
loop-number-init c =
    let program = c.args.program.now in
    let count = length c.statements-statements.result.now in
    let rows : c.in-Ok.rows.items ≡ replicate count (replicate 64 true) =
    c.in-Ok.ensures.items_if_clones_equal (λ row clone. each_same (replicate 64 true) row clone.whole) in
    record {
      many = ap (λ (t : List (List Bool)). length t) rows ∙ length-replicate count (replicate 64 true)
          ∙ ap (λ (ps : List Parts). length ps) c.statements-statements.ensures.value;
      known = subst (IsTable c.args.watched.now program) (sym rows)
          (first_table c.args.watched.now program count 64);
    }
