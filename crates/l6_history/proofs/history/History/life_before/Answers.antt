use Rattle.std.proofs.Common.{◌≡◌, ℕ, Option, Some, None, true, false, if◌then◌else◌, ◌∙◌, ap, sym, subst}
use Rattle.std.specs.Prelude.{is_some, unwrap_or}
use Rattle.l6_steps.specs.State.{RunContext}
use Rattle.l6_history.specs.Life.{block_in, freed_before, is_freed, is_so_by, life_of, life_to, written_by}
use Rattle.l6_history.specs.Seeking.{greatest}
use Rattle.l6_history.specs.declared.life.Life.{Life}
use Rattle.l6_history.proofs.Lives.{freed_found, freed_was_there, never_freed, never_got}
use Rattle.l6_history.proofs.history.History.life_before.Goals as goal

-- what is freed was there
pub life_to-requires-in-Some-clause-there : goal.life_to-requires-in-Some-clause-there
life_to-requires-in-Some-clause-there g c =
    let rule = g.S.Places.rule in
    let context = c.args.self.now.context in
    let place = c.args.place in
    let here = c.number-number.result in
    let gone : is_some (block_in rule context place here) ≡ false =
    ap (λ n. is_some (block_in rule context place n)) c.number-number.ensures.value
    ∙ sym c.has_block.ensures ∙ c.if-has_block.false in
    subst (λ (w : RunContext). is_some (block_in rule w place c.in-Some.freed) ≡ true)
    (sym c.in-Some.ensures.context)
    (freed_was_there rule context place here c.in-Some.freed gone c.in-Some.ensures.last)

-- the last step from which it comes or goes freed it
pub returns-in-Some-clause-life : goal.returns-in-Some-clause-life
returns-in-Some-clause-life g c =
    let rule = g.S.Places.rule in
    let context = c.args.self.now.context in
    let place = c.args.place in
    let here = c.number-number.result in
    let freed = c.in-Some.freed in
    let gone : is_some (block_in rule context place here) ≡ false =
    ap (λ n. is_some (block_in rule context place n)) c.number-number.ensures.value
    ∙ sym c.has_block.ensures ∙ c.if-has_block.false in
    let found : freed_before rule context place here ≡ Some freed =
    ap (λ b. if b then None else greatest here (is_so_by is_freed rule context place)) gone
    ∙ freed_found rule context place here freed gone c.in-Some.ensures.last in
    let with_end : Option ℕ → Life = λ o. life_to rule context place (unwrap_or o here) o in
    c.life_to-in-Some.ensures.life
    ∙ ap (λ (w : RunContext). life_to rule w place freed (Some freed)) c.in-Some.ensures.context
    ∙ ap with_end (sym found)
    ∙ ap (life_of rule context place) c.number-number.ensures.value

-- where none ever came or went there is no life
pub returns-in-None-clause-life : goal.returns-in-None-clause-life
returns-in-None-clause-life g c =
    let rule = g.S.Places.rule in
    let context = c.args.self.now.context in
    let place = c.args.place in
    let here = c.number-number.result in
    let gone : is_some (block_in rule context place here) ≡ false =
    ap (λ n. is_some (block_in rule context place n)) c.number-number.ensures.value
    ∙ sym c.has_block.ensures ∙ c.if-has_block.false in
    let found : freed_before rule context place here ≡ None =
    ap (λ b. if b then None else greatest here (is_so_by is_freed rule context place)) gone
    ∙ never_freed rule context place here c.in-None.ensures.last in
    let with_get : Option ℕ → Life =
    λ o. record { got = o; written = written_by rule context place here o; freed = None } in
    let with_end : Option ℕ → Life = λ o. life_to rule context place (unwrap_or o here) o in
    ap with_get (sym (never_got rule context place here c.in-None.ensures.last))
    ∙ ap with_end (sym found)
    ∙ ap (life_of rule context place) c.number-number.ensures.value
