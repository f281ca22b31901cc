use Rattle.std.proofs.Common.{◌∙◌, sym}
use Rattle.l6_history.proofs.Lives.{never_written, written_is}
use Rattle.l6_history.proofs.history.History.written_since.Goals as goal

-- the last step from which it is another one wrote it, if it is after the one that got it
pub returns-in-Some-clause-written : goal.returns-in-Some-clause-written
returns-in-Some-clause-written g c =
    c.if_after.ensures
    ∙ sym (written_is g.S.Places.rule c.args.self.now.context c.args.place c.args.got c.args.end
    c.in-Some.written c.requires.there c.requires.got c.in-Some.ensures.last)

pub returns-in-None-clause-written : goal.returns-in-None-clause-written
returns-in-None-clause-written g c =
    sym (never_written g.S.Places.rule c.args.self.now.context c.args.place c.args.got c.args.end
    c.requires.there c.requires.got c.in-None.ensures.last)
