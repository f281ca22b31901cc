use Rattle.std.proofs.Common.{◌≡◌, true, take}
use Rattle.std.specs.List.{list_all}
use Rattle.l6_group.specs.Character.{is_blank}
use Rattle.l6_card.proofs.item.skip_blanks.Given as goal

-- each column so far is a blank
abbrev pub invariant-loop-place : goal.invariant-loop-place
invariant-loop-place l = list_all is_blank (take l.place l.body) ≡ true
