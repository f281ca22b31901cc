use Rattle.std.proofs.Common.{List, map, ap, ◌∙◌, subst}
use Rattle.serde_json.specs.View.{view}
use Rattle.l6_steps.specs.declared.position.Position.{Position}
use Rattle.l6_dap.specs.Frames.{AreFrames, wanted}
use Rattle.l6_dap.proofs.frames.part_of.Goals as goal

pub returns : goal.returns
returns c = record {
  frames = map view c.in_ok-frames.frames.items;
  are = subst
      (λ (it : List Position). AreFrames c.args.debuggee.now.names.labels c.args.first it (map view c.in_ok-frames.frames.items))
      (c.wanted-part.ensures ∙ ap (wanted c.args.levels) c.wanted_from.ensures) c.in_ok-frames.ensures;
  is = c.in_ok-stack_body.ensures;
}
