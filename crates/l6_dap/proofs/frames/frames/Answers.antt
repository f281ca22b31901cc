use Rattle.std.proofs.Common.{◌∷◌, [], map, ap, ◌∙◌, arith}
use Rattle.std.proofs.lemmas.List.{map-append}
use Rattle.serde_json.specs.View.{view}
use Rattle.l6_dap.proofs.Framing.{frame_next}
use Rattle.l6_dap.proofs.frames.frames.Goals as goal

pub loop-at-preserved : goal.loop-at-preserved
loop-at-preserved c =
    let frames = c.loop-at.list.items in
    let frame = c.in_ok-frame_of.field-0 in
    record {
      number = omega (arith, c.loop-at.invariant.number);
      frames = frame_next c.args.debuggee.now.names.labels c.args.first c.args.positions.now (map view frames)
          (map view c.push.new.self.items) c.loop-at.at-index c.loop-at.number _ (view frame) c.loop-at-test.true
          c.loop-at.invariant.frames c.loop-at.invariant.number c.in_ok-frame_of.ensures
          (ap (map view) c.in_ok-push.ensures.items ∙ map-append view frames (frame ∷ []));
    }
