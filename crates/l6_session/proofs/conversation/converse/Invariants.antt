use Rattle.std.proofs.Common.{[]}
use Rattle.l6_session.specs.Dialogue.{Talked}
use Rattle.l6_session.proofs.conversation.converse.Given as goal

-- so far each line was answered
abbrev pub invariant-lines : goal.invariant-lines
invariant-lines g l =
    Talked g.A.Answerer.Answers g.A.Answerer.after g.A.Answerer.ends_by l.prompt
    l.fn.answerer l.answerer [] l.last.items
    (g.C.Console.passed l.fn.console) (g.C.Console.passed l.console)
