use Rattle.std.proofs.Common.{◌≡◌, map, take}
use Rattle.l6_draw.specs.Drawing.{character_of}
use Rattle.l6_dap.proofs.variables.names_of.Given as goal

abbrev pub invariant-loop-name : goal.invariant-loop-name
invariant-loop-name l = l.text.items ≡ map character_of (take l.name-index l.name-items)
