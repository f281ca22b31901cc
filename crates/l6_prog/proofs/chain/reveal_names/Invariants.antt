use Rattle.std.proofs.Common.{◌≡◌, true, take}
use Rattle.std.specs.List.{list_all}
use Rattle.l6_prog.specs.Chain.{is_name}
use Rattle.l6_prog.proofs.chain.reveal_names.Given as goal

-- each so far is a name
abbrev pub invariant-loop-name : goal.invariant-loop-name
invariant-loop-name l = list_all is_name (take l.name-index l.names) ≡ true
