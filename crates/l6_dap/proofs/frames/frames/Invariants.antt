use Rattle.std.proofs.Common.{◌≡◌, ◌+◌, map, take}
use Rattle.serde_json.specs.View.{view}
use Rattle.l6_dap.specs.Frames.{AreFrames}
use Rattle.l6_dap.proofs.frames.frames.Given as goal

abbrev pub invariant-loop-at : goal.invariant-loop-at
invariant-loop-at l = record {
  number : l.number ≡ l.first + l.at-index;
  frames : AreFrames l.debuggee.names.labels l.first (take l.at-index l.positions) (map view l.list.items);
}
