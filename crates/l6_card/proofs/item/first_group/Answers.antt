use Rattle.std.proofs.Common.{◌≡◌, [], ◌∷◌, false, ap, ◌∙◌, subst, rules}
use Rattle.std.specs.Str.{byte}
use Rattle.std.proofs.lemmas.Bool.{ne_eqb}
use Rattle.l6_card.specs.inner.Token.{begins_with_closing, IsCutAtParenthesis}
use Rattle.l6_card.proofs.Bodies.{unclosed_cut, closed_cut}
use Rattle.l6_card.proofs.item.first_group.Goals as goal

pub returns-in_err-column-clause-group : goal.returns-in_err-column-clause-group
returns-in_err-column-clause-group c =
    let cut = c.split_at_parenthesis in
    let ends : cut.result.1.now ≡ [] = search rules in
    rw c.from_residual.ensures
    (unclosed_cut c.args.inside.now cut.result.0.now cut.result.1.now cut.ensures
    (ap begins_with_closing ends))

pub returns-then-column-eq41-clause-group : goal.returns-then-column-eq41-clause-group
returns-then-column-eq41-clause-group c =
    let cut = c.split_at_parenthesis in
    let closes : cut.result.1.now ≡ byte ")" ∷ c.in_ok-column.following.now = search rules in
    closed_cut c.args.inside.now cut.result.0.now c.in_ok-column.following.now
    (subst (IsCutAtParenthesis c.args.inside.now cut.result.0.now) closes cut.ensures)

pub returns-else-column-eq41-clause-group : goal.returns-else-column-eq41-clause-group
returns-else-column-eq41-clause-group c =
    let cut = c.split_at_parenthesis in
    let goes_on : cut.result.1.now ≡ c.in_ok-column.column.now ∷ c.in_ok-column.following.now =
    search rules in
    let open' : begins_with_closing (c.in_ok-column.column.now ∷ c.in_ok-column.following.now) ≡ false =
    ne_eqb c.in_ok-column.column.now (byte ")") c.if-column-eq41.false in
    unclosed_cut c.args.inside.now cut.result.0.now cut.result.1.now cut.ensures
    (ap begins_with_closing goes_on ∙ open')
