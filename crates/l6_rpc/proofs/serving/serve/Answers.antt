use Rattle.std.proofs.Common.{List, ℕ, [], ◌∷◌, ◌++◌, Some, None, inr}
use Rattle.std.specs.Option.{option_map}
use Rattle.serde_json.specs.View.{view}
use Rattle.l6_rpc.specs.Serving.{Event, GoesOn}
use Rattle.l6_rpc.specs.Serving.Event.{came}
use Rattle.l6_rpc.proofs.Talking.{begins, exchanged, goes_on, one_more, received}
use Rattle.l6_rpc.proofs.serving.serve.Goals as goal

pub messages-init : goal.messages-init
messages-init g c =
    begins g.S.Service.IsAble g.S.Service.Answers g.S.Service.Notes
    c.args.server.now.service c.args.server.now.phase (g.C.Channel.passed c.args.channel.now)

-- a message that ends the talk
pub returns-in-Some : goal.returns-in-Some
returns-in-Some g c =
    let passed = g.C.Channel.passed in
    let body = c.receive.new.body.items in
    let value = option_map view c.in_ok-reply.reply.message in
    let sent = c.in_ok-send.ensures in
    let come = received (passed c.messages.channel) (passed c.receive.new.self) c.in_ok-receive.field-0 body
    c.if-not-branch.false c.in_ok-receive.ensures in
    let goes = goes_on (passed c.messages.channel) (passed c.receive.new.self)
    (passed c.send.new.channel) (came body ∷ []) sent.0 come sent.2 in
    record {
      state = c.messages.server.service;
      phase = c.messages.server.phase;
      events = c.messages.invariant.events;
      others = came body ∷ sent.0;
      talks = c.messages.invariant.talks;
      ends = inr (exchanged g.S.Service.IsAble g.S.Service.Answers g.S.Service.Notes
          c.messages.server.service c.take.new.self.service c.messages.server.phase
          c.take.new.self.phase body c.as_slice.result.now value c.in_ok-reply.reply.status
          (Some c.in-Some.status) sent.0 c.as_slice.ensures.value c.in-Some.is
          c.in_ok-reply.ensures sent.1);
      goes = goes_on (passed c.args.channel.now) (passed c.messages.channel)
          (passed c.send.new.channel) c.messages.invariant.events (came body ∷ sent.0)
          c.messages.invariant.goes goes;
    }

-- a message more that was answered
pub messages-preserved : goal.messages-preserved
messages-preserved g c =
    let passed = g.C.Channel.passed in
    let body = c.receive.new.body.items in
    let value = option_map view c.in_ok-reply.reply.message in
    let sent = c.in_ok-send.ensures in
    let come = received (passed c.messages.channel) (passed c.receive.new.self) c.in_ok-receive.field-0 body
    c.if-not-branch.false c.in_ok-receive.ensures in
    let goes = goes_on (passed c.messages.channel) (passed c.receive.new.self)
    (passed c.send.new.channel) (came body ∷ []) sent.0 come sent.2 in
    one_more g.S.Service.IsAble g.S.Service.Answers g.S.Service.Notes
    c.args.server.now.service c.messages.server.service c.take.new.self.service
    c.args.server.now.phase c.messages.server.phase c.take.new.self.phase
    (passed c.args.channel.now) (passed c.messages.channel) (passed c.send.new.channel)
    (came body ∷ sent.0)
    (record {
      events = c.messages.invariant.events;
      talks = c.messages.invariant.talks;
      goes = c.messages.invariant.goes;
    })
    (exchanged g.S.Service.IsAble g.S.Service.Answers g.S.Service.Notes
    c.messages.server.service c.take.new.self.service c.messages.server.phase
    c.take.new.self.phase body c.as_slice.result.now value c.in_ok-reply.reply.status
    None sent.0 c.as_slice.ensures.value c.in-None.is c.in_ok-reply.ensures sent.1)
    goes
