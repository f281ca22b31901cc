use Rattle.std.proofs.Common.{◌≡◌, ◌∷◌, rules}
use Rattle.std.specs.Str.{byte}
use Rattle.l6_card.proofs.Bodies.{opened_first, unclosed_first}
use Rattle.l6_card.proofs.item.first_of.Goals as goal

pub returns-in-Some-first_group-clause-first : goal.returns-in-Some-first_group-clause-first
returns-in-Some-first_group-clause-first c =
    let whole : c.args.body.now ≡ c.in-Some.column.now ∷ c.in-Some.inside.now = search rules in
    let opens : c.in-Some.column.now ≡ byte "(" = search rules in
    opened_first whole opens c.in-Some-first_group.ensures.group

pub returns-in-None-first_group-clause-first : goal.returns-in-None-first_group-clause-first
returns-in-None-first_group-clause-first c =
    let whole : c.args.body.now ≡ c.in-Some.column.now ∷ c.in-Some.inside.now = search rules in
    let opens : c.in-Some.column.now ≡ byte "(" = search rules in
    unclosed_first whole opens c.in-None-first_group.ensures.group
