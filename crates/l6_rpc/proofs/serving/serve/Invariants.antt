use Rattle.l6_rpc.proofs.Talking.{Talked}
use Rattle.l6_rpc.proofs.serving.serve.Given as goal

-- so far each message was answered
abbrev pub invariant-messages : goal.invariant-messages
invariant-messages g l =
    Talked g.S.Service.IsAble g.S.Service.Answers g.S.Service.Notes
    l.fn.server.service l.server.service l.fn.server.phase l.server.phase
    (g.C.Channel.passed l.fn.channel) (g.C.Channel.passed l.channel)
