use Rattle.std.proofs.Common.{◌≡◌, map, take}
use Rattle.serde_json.specs.View.{view}
use Rattle.l6_dap.specs.Breakpoints.{all_asked, all_said}
use Rattle.l6_dap.proofs.breakpoints.all_asked.Given as goal

abbrev pub invariant-loop-entry : goal.invariant-loop-entry
invariant-loop-entry l =
    let names = l.debuggee.names in
    let entries = map view (take l.entry-index l.entries) in
    record {
      wanted : l.wanted.items ≡ all_asked l.kind names entries;
      said : map view l.said.items ≡ all_said l.kind l.debuggee.path names entries;
    }
