use Rattle.std.proofs.Common.{◌≡◌, ◌++◌, map, take}
use Rattle.l6_draw.specs.Drawing.{character_of}
use Rattle.l6_session.proofs.text.push_names.Given as goal

-- the names so far are added
abbrev pub invariant-loop-name : goal.invariant-loop-name
invariant-loop-name l =
    l.text.items ≡ l.fn.text.items ++ map character_of (take l.name-index l.names)
