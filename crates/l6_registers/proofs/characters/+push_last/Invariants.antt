use Rattle.l6_registers.proofs.characters.+push_last.Given as goal

-- the characters that are left
abbrev pub decreases-push_last : goal.decreases-push_last
decreases-push_last l = l.count
