use Rattle.std.proofs.Common.{rules, ◌≡◌, ◌+◌, ◌++◌, ◌∷◌, ◌<◌, [], false, true, Some, length, length-append, get_or, set, refl, subst, sym, ap, ◌∙◌, arith}
use Rattle.std.specs.Prelude.{slice_get}
use Rattle.std.proofs.lemmas.List.{get_or_default}
use Rattle.std.proofs.lemmas.Option.{slice_get_read}
use Rattle.l6_check.specs.Ways.{ways_from}
use Rattle.l6_check.specs.inner.Marks.{is_marked}
use Rattle.l6_check.proofs.Reaching.{IsSearch, done, expanded, few_ways, left_at, left_less, skipped}
use Rattle.l6_check.proofs.reached.reached_statements.Goals as goal
use Rattle.l6_check.proofs.reached.reached_statements.Goals.{else-number-len-via-then-number-len+else-not-index, else-number-len-via-else-number-len}

-- the statement that is marked is the program's of its number
statement_got : (c : goal.In_ok-add_ways) →
    slice_get c.args.program.now c.in-Some.number ≡ Some c.index-statements-number.result
statement_got c =
    let statements = c.statements-statements.result.now in
    let number = c.in-Some.number in
    let place : number < length c.loop-number.reached.items = search rules in
    let all = ap length c.statements-statements.ensures.value in
    let within : number < length statements = omega (arith, place, c.loop-number.invariant.long, all) in
    ap (λ s. slice_get s number) (sym c.statements-statements.ensures.value)
    ∙ slice_get_read statements (length statements) number c.index-statements-number.result refl within
    c.index-statements-number.is

pub loop-number-smaller-then-not-index : goal.loop-number-smaller-then-not-index
loop-number-smaller-then-not-index c =
    let program = c.args.program.now in
    let number = c.in-Some.number in
    let front = c.pop.new.self.items in
    let reached = c.loop-number.reached.items in
    let statement = c.index-statements-number.result in
    let split : c.loop-number.pending.items ≡ front ++ number ∷ [] = search rules in
    let place : number < length reached = search rules in
    let new : is_marked reached number ≡ false = search rules in
    let less = left_less program reached number statement (statement_got c) place new in
    let few = few_ways number statement in
    let before = ap length split ∙ length-append front (number ∷ []) in
    let after = ap length c.in_ok-add_ways.ensures ∙ length-append front (ways_from number statement) in
    let smaller : left_at program (set reached number true) + length c.add_ways.new.pending.items
    < left_at program reached + length c.loop-number.pending.items =
    omega (arith, less, few, before, after) in
    smaller

pub loop-number-preserved-then-not-index : goal.loop-number-preserved-then-not-index
loop-number-preserved-then-not-index c =
    let program = c.args.program.now in
    let number = c.in-Some.number in
    let front = c.pop.new.self.items in
    let reached = c.loop-number.reached.items in
    let statement = c.index-statements-number.result in
    let split : c.loop-number.pending.items ≡ front ++ number ∷ [] = search rules in
    let place : number < length reached = search rules in
    subst (IsSearch program (set reached number true)) (sym c.in_ok-add_ways.ensures)
    (expanded program reached front number statement
    (subst (IsSearch program reached) split c.loop-number.invariant) place (statement_got c))

pub loop-number-preserved : goal.loop-number-preserved
loop-number-preserved c =
    let number = c.in-Some.number in
    let reached = c.loop-number.reached.items in
    let split : c.loop-number.pending.items ≡ c.pop.new.self.items ++ number ∷ [] = search rules in
    skipped c.args.program.now reached c.pop.new.self.items number
    (subst (IsSearch c.args.program.now reached) split c.loop-number.invariant)
    (elim c.else-number-len.branch [
      | else-number-len-via-then-number-len+else-not-index w ↦ (λ place.
          let mark = w.index.result.now in
          let found : get_or reached number mark ≡ mark = search rules in
          let is : mark ≡ true = search rules in
          get_or_default reached number false mark place ∙ found ∙ is)
      | else-number-len-via-else-number-len w ↦ (λ place. search rules)
    ])

pub returns : goal.returns
returns c =
    let none : c.loop-number.pending.items ≡ [] = search rules in
    done c.args.program.now c.loop-number.reached.items
    (subst (IsSearch c.args.program.now c.loop-number.reached.items) none c.loop-number.invariant)
