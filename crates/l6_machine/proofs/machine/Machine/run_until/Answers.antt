use Rattle.std.proofs.Common.{◌≡◌, ◌+◌, ◌<◌, Bool, false, ap, sym, ◌∙◌, arith}
use Rattle.std.proofs.lemmas.Bool.{or_parts}
use Rattle.l6_steps.specs.Configuration.{Configuration}
use Rattle.l6_steps.specs.declared.limits.Limits.{Limits}
use Rattle.l6_steps.specs.State.{RunContext, State, is_last}
use Rattle.l6_machine.specs.Later.{sees, state_later}
use Rattle.l6_machine.proofs.Seeing.{later, not_last, one_more, open_number}
use Rattle.l6_machine.proofs.machine.Machine.run_until.Goals as goal

-- one step more was made
pub steps-preserved : goal.steps-preserved
steps-preserved g c =
    let rule = g.S.Places.rule in
    let context = c.args.self.now.context in
    let from = c.args.self.now.configuration in
    let made = c.steps.made in
    let now = c.steps.self in
    let old = c.steps.invariant in
    let stops : State → Bool = g.W.Watch.stops c.args.watch.now in
    let changed : State → Bool = g.W.Watch.changed c.args.watch.now in
    let goes_on = c.goes_on_below.ensures.value.0 c.steps-test.true in
    let steps = ap (λ (limits : Limits). limits.steps) c.limits.ensures.value in
    let same = ap (λ (w : RunContext). w.parameters.limits.steps) old.context in
    let below : now.configuration.state.count < now.context.parameters.limits.steps =
    omega (arith, goes_on.1, same, steps, c.min-limit.ensures) in
    let here : is_last context (state_later rule context made from) ≡ false =
    ap (λ (w : RunContext). is_last w (state_later rule context made from)) (sym old.context)
    ∙ ap (λ (m : Configuration). is_last now.context m.state) (sym old.there)
    ∙ not_last now.context now.configuration.state goes_on.0 below in
    let there =
    later rule context from made now c.go_on.new.self old.context old.there
    c.go_on.ensures.configuration in
    let unseen : sees stops changed c.go_on.new.self.configuration.state ≡ false =
    sym c.is_seen.ensures ∙ c.if-is_seen.false in
    let number = open_number now.configuration.state goes_on.0 in
    record {
      context = c.go_on.ensures.context ∙ old.context;
      there = there;
      goes_on = λ k within.
          one_more (λ n. is_last context (state_later rule context n from)) 0 made
          (λ n _ before. old.goes_on n before) here k (omega arith) within;
      unseen =
          one_more (λ n. sees stops changed (state_later rule context n from)) 1 (made + 1) old.unseen
          (ap (λ (m : Configuration). sees stops changed m.state) (sym there) ∙ unseen);
      unchanged =
          (or_parts (stops c.go_on.new.self.configuration.state)
          (changed c.go_on.new.self.configuration.state) unseen).1;
      counted = omega (arith, c.go_on.ensures.counted, old.counted, number);
      few = omega (
        arith,
        c.go_on.ensures.counted,
        old.counted,
        number,
        goes_on.1,
        c.min-limit.ensures,
        old.few,
      );
    }

-- unless a step may change what is watched, that stays unchanged
pub is_seen-requires : goal.is_seen-requires
is_seen-requires g c none =
    let changed : State → Bool = g.W.Watch.changed c.args.watch.now in
    ap (λ (m : Configuration). changed m.state) c.go_on.ensures.configuration
    ∙ c.may_change-may_change.ensures none
    ∙ c.steps.invariant.unchanged
