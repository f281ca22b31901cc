use Rattle.l6_check.proofs.reading.+add_objections.Given as goal

-- proposed from what the function passes where it calls itself
abbrev pub decreases-add_objections : goal.decreases-add_objections
decreases-add_objections l = l.most
