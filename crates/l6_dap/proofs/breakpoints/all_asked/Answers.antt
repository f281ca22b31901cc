use Rattle.std.proofs.Common.{◌∷◌, [], ◌++◌, map, take, ap, sym, ◌∙◌, append-nil}
use Rattle.std.specs.List.{cons_option}
use Rattle.std.specs.Result.{result_ok}
use Rattle.std.proofs.lemmas.List.{map-append}
use Rattle.serde_json.specs.View.{view}
use Rattle.l6_dap.proofs.Entries.{asked_next, said_next, taken_next}
use Rattle.l6_dap.proofs.breakpoints.all_asked.Goals as goal
use Rattle.l6_dap.proofs.breakpoints.all_asked.Goals.{in-Ok+in_ok-push-2, in_default}

pub loop-entry-preserved : goal.loop-entry-preserved
loop-entry-preserved c =
    let all = c.args.entries.now in
    let names = c.args.debuggee.now.names in
    let entry = c.entry-item.result in
    let before = take c.loop-entry.entry-index all in
    let are = ap (map view) (taken_next all c.loop-entry.entry-index entry c.loop-entry-test.true c.entry-item.is)
    ∙ map-append view before (entry ∷ []) in
    let wanted = c.loop-entry.wanted.items in
    let said = c.loop-entry.said.items in
    record {
      wanted = asked_next c.args.kind names (map view before) (view entry) _ wanted c.match-asked.wanted.items
          c.in_ok-asked.asked are c.in_ok-asked.ensures c.loop-entry.invariant.wanted
          (elim c.match-asked.branch [
            | in-Ok+in_ok-push-2 w ↦
                ap (λ it. it.items) w.wanted-is ∙ w.in_ok-push-2.ensures.items
                ∙ ap (λ it. wanted ++ cons_option (result_ok it) []) (sym w.in-Ok.is)
            | in_default w ↦
                ap (λ it. it.items) w.wanted-is ∙ sym (append-nil wanted)
                ∙ ap (λ it. wanted ++ cons_option (result_ok it) []) (sym w.in_default.is)
          ]);
      said = said_next c.args.kind c.args.debuggee.now.path names (map view before) (view entry) _ (map view said)
          (map view c.push.new.self.items) (view c.in_ok-said_of.field-0) c.in_ok-asked.asked are c.in_ok-asked.ensures
          c.in_ok-said_of.ensures c.loop-entry.invariant.said
          (ap (map view) c.in_ok-push.ensures.items ∙ map-append view said (c.in_ok-said_of.field-0 ∷ []));
    }
