use Rattle.std.proofs.Common.{List, ◌∷◌, [], ◌++◌, ◌+◌, drop, length, map, ap, sym, ◌∙◌}
use Rattle.std.proofs.lemmas.List.{drop_more, map-append}
use Rattle.serde_json.specs.Data.{Data}
use Rattle.serde_json.specs.View.{view}
use Rattle.l6_history.specs.declared.watched.Watched.{Watched}
use Rattle.l6_dap.specs.Watches.{said_from, said_of}
use Rattle.l6_dap.specs.inner.Watching.{with_chains}
use Rattle.l6_dap.proofs.Watching.{said_next, watched_next}
use Rattle.l6_dap.proofs.watches.watch_entries.Goals as goal

pub loop-entry-preserved : goal.loop-entry-preserved
loop-entry-preserved c =
    let all = c.args.entries.now in
    let i = c.loop-entry.entry-index in
    let entry = c.entry-item.result in
    let there = c.loop-entry.session.state.stop.watched in
    let rest = map view (drop (i + 1) all) in
    -- what is left begins with this entry
    let left = ap (map view) (drop_more all i entry c.loop-entry-test.true ∙ ap (λ it. it ∷ drop (i + 1) all) (sym c.entry-item.is)) in
    let next = ap (λ it. it.state.stop.watched) c.watches-is_watched.ensures.watched in
    record {
      said = ap (λ (it : List Data). it ++ said_from (length c.watches-is_watched.new.session.state.stop.watched) rest)
          (ap (map view) c.in_ok-push.ensures.items ∙ map-append view c.loop-entry.said.items (c.in_ok-said_of.field-0 ∷ []))
          ∙ said_next (map view c.loop-entry.said.items) (view c.in_ok-said_of.field-0) (view entry) rest _ there
          c.watches-is_watched.new.session.state.stop.watched
          (c.in_ok-said_of.ensures ∙ ap said_of c.watches-is_watched.ensures.is) next
          (ap (λ (it : List Data). map view c.loop-entry.said.items ++ said_from (length there) it) (sym left)
          ∙ c.loop-entry.invariant.said);
      watched = ap (λ (it : List Watched). with_chains rest it) next
          ∙ ap (λ (it : List Data). with_chains it there) (sym left) ∙ c.loop-entry.invariant.watched;
      others = watched_next c.args.session.now c.loop-entry.session c.watches-is_watched.new.session _
          c.loop-entry.invariant.others c.watches-is_watched.ensures.watched;
    }
