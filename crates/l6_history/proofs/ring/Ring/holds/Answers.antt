use Rattle.std.proofs.Common.{◌≡◌, ℕ, List, [], ◌∷◌, eqb, refl, sym, ap, ◌∙◌, rules, tests}
use Rattle.std.specs.Prelude.{◌||◌, map}
use Rattle.std.specs.List.{list_any}
use Rattle.std.proofs.lemmas.Iterator.Consumers.{YieldsList-from_first}
use Rattle.std.proofs.lemmas.Iterator.Search.{any_from_yields_List}
use Rattle.l6_history.specs.inner.NumberedMachine.{NumberedMachine}
use Rattle.l6_history.specs.inner.Ring.{Checkpoints, numbers_of}
use Rattle.l6_history.proofs.ring.Ring.holds.Goals as goal

-- whether one is at the state of a number
any_numbered : (number : ℕ) (items : List NumberedMachine) →
    list_any (λ (v : NumberedMachine). eqb v.number number) items
    ≡ list_any (λ kept. eqb kept number) (map (λ (v : NumberedMachine). v.number) items)
any_numbered number [] = refl
any_numbered number (first ∷ others) =
    ap (λ b. eqb first.number number || b) (any_numbered number others)

pub returns-in-Some : goal.returns-in-Some
returns-in-Some g c =
    let items = c.in-Some.numbered_machines.items in
    any_from_yields_List (λ (v : NumberedMachine). eqb v.number c.args.number) _ _ _
    c.any.ensures.ran (YieldsList-from_first _ _ items c.iter.ensures.rest)
    (λ x b q k. search (rules, tests))
    ∙ any_numbered c.args.number items
    ∙ ap (λ (k : Checkpoints). list_any (λ kept. eqb kept c.args.number) (numbers_of k)) (sym c.in-Some.is)
