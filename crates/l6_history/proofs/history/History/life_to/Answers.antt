use Rattle.std.proofs.Common.{◌≡◌, ℕ, Option, Some, None, ◌∙◌, ap, sym}
use Rattle.l6_steps.specs.State.{RunContext}
use Rattle.l6_history.specs.Life.{got_before, written_by, written_since}
use Rattle.l6_history.specs.declared.life.Life.{Life}
use Rattle.l6_history.proofs.Lives.{got_found}
use Rattle.l6_history.proofs.history.History.life_to.Goals as goal

-- it was got by the last step from which it is there
pub returns-in-Some-clause-life : goal.returns-in-Some-clause-life
returns-in-Some-clause-life g c =
    let rule = g.S.Places.rule in
    let context = c.args.self.now.context in
    let place = c.args.place in
    let end = c.args.end in
    let got = c.in-Some.got in
    let found : got_before rule context place end ≡ Some got =
    got_found rule context place end (Some got) c.requires.there c.in-Some.ensures.last in
    let written : c.written_since-written.result ≡ written_since rule context place end got =
    c.written_since-written.ensures.written
    ∙ ap (λ (w : RunContext). written_since rule w place end got) c.in-Some.ensures.context in
    let with_write : Option ℕ → Life = λ w. record { got = Some got; written = w; freed = c.args.freed } in
    let with_get : Option ℕ → Life =
    λ o. record { got = o; written = written_by rule context place end o; freed = c.args.freed } in
    ap with_write written ∙ ap with_get (sym found)

pub returns-in-None-clause-life : goal.returns-in-None-clause-life
returns-in-None-clause-life g c =
    let rule = g.S.Places.rule in
    let context = c.args.self.now.context in
    let place = c.args.place in
    let end = c.args.end in
    let found : got_before rule context place end ≡ c.last_change-got.result =
    got_found rule context place end c.last_change-got.result c.requires.there
    c.last_change-got.ensures.last in
    let with_get : Option ℕ → Life =
    λ o. record { got = o; written = None; freed = c.args.freed } in
    let with_write : Option ℕ → Life =
    λ w. record { got = got_before rule context place end; written = w; freed = c.args.freed } in
    ap with_get (sym found)
    ∙ ap with_write (ap (written_by rule context place end) (sym (found ∙ c.in-None.is)))
