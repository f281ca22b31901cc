use Rattle.std.proofs.Common.{◌≤◌, subst, sym, arith}
use Rattle.std.specs.Prelude.{IfSome}
use Rattle.l6_steps.specs.Numbering.{last_number}
use Rattle.l6_history.specs.declared.life.Life.{Life}
use Rattle.l6_history.proofs.Lives.{freed_within, got_within, life_end_within, written_within}
use Rattle.l6_history.proofs.history.History.life_of.Goals as goal

pub returns-clause-got : goal.returns-clause-got
returns-clause-got g c =
    let rule = g.S.Places.rule in
    let context = c.args.self.now.context in
    let place = c.args.place in
    let last = last_number rule context in
    let on : c.args.self.now.number ≤ last = omega (arith, c.number-number.ensures.value, c.number-number.ensures.within) in
    subst (λ (life : Life). IfSome life.got (λ n. n ≤ last)) (sym c.life_before-life.ensures.life)
    (got_within rule context place last _ (life_end_within rule context place last _ on))

pub returns-clause-written : goal.returns-clause-written
returns-clause-written g c =
    let rule = g.S.Places.rule in
    let context = c.args.self.now.context in
    let place = c.args.place in
    let last = last_number rule context in
    let on : c.args.self.now.number ≤ last = omega (arith, c.number-number.ensures.value, c.number-number.ensures.within) in
    subst (λ (life : Life). IfSome life.written (λ n. n ≤ last)) (sym c.life_before-life.ensures.life)
    (written_within rule context place last _ (life_end_within rule context place last _ on))

pub returns-clause-freed : goal.returns-clause-freed
returns-clause-freed g c =
    let rule = g.S.Places.rule in
    let context = c.args.self.now.context in
    let place = c.args.place in
    let last = last_number rule context in
    let on : c.args.self.now.number ≤ last = omega (arith, c.number-number.ensures.value, c.number-number.ensures.within) in
    subst (λ (life : Life). IfSome life.freed (λ n. n ≤ last)) (sym c.life_before-life.ensures.life)
    (freed_within rule context place last _ on)
