use Rattle.std.proofs.Common.{◌≡◌, ℕ, ◌^◌, List, [], ◌∷◌, true, Option, Some, None, refl, sym, ap, ◌∙◌, subst, arith}
use Rattle.l6_store.specs.BuddyStore.{BuddyStore}
use Rattle.l6_store.specs.Open.{IsAnswer}
use Rattle.l6_store.specs.Buddy.{first_of, first_or, has, level_found, listed}
use Rattle.std.specs.Option.{option_map}
use Rattle.l6_store.proofs.Finding.{chooses}
use Rattle.l6_store.proofs.Stores.{found_facts}
use Rattle.l6_store.proofs.buddy.BuddyPlaces.peek.Goals as goal

-- the place picked answers, by the level that was found
answer : (c : goal.After-from_residual) → (found : Option ℕ)
    → found ≡ level_found c.self.inside.arena.order c.args.level
    → IsAnswer c.args.self.now.store.units c.args.self.now.store.blocks (2 ^ c.args.level)
    (option_map (λ k. first_or (listed c.self.inside.arena.order k) 0) found)
answer c found is =
    subst (λ (b : BuddyStore). IsAnswer b.store.units b.store.blocks (2 ^ c.args.level)
    (option_map (λ k. first_or (listed c.self.inside.arena.order k) 0) found)) c.self.view_is
    (subst (λ (o : Option ℕ). IsAnswer c.self.inside.arena.units c.self.inside.arena.blocks
    (2 ^ c.args.level) (option_map (λ k. first_or (listed c.self.inside.arena.order k) 0) o))
    (sym is)
    (chooses c.self.inside.arena.units c.self.inside.arena.blocks c.self.inside.arena.order
    c.self.invariant.1 c.args.level c.requires))

pub returns-in_err-least_level-clause-fits : goal.returns-in_err-least_level-clause-fits
returns-in_err-least_level-clause-fits c =
    subst (λ (o : Option ℕ). IsAnswer c.args.self.now.store.units c.args.self.now.store.blocks
    (2 ^ c.args.level) o) (sym c.from_residual.ensures)
    (answer c None c.in_err-least_level.ensures)

-- the place picked answer_thens, by the level that was found
answer_then : (c : goal.After-first) → (found : Option ℕ)
    → found ≡ level_found c.self.inside.arena.order c.args.level
    → IsAnswer c.args.self.now.store.units c.args.self.now.store.blocks (2 ^ c.args.level)
    (option_map (λ k. first_or (listed c.self.inside.arena.order k) 0) found)
answer_then c found is =
    subst (λ (b : BuddyStore). IsAnswer b.store.units b.store.blocks (2 ^ c.args.level)
    (option_map (λ k. first_or (listed c.self.inside.arena.order k) 0) found)) c.self.view_is
    (subst (λ (o : Option ℕ). IsAnswer c.self.inside.arena.units c.self.inside.arena.blocks
    (2 ^ c.args.level) (option_map (λ k. first_or (listed c.self.inside.arena.order k) 0) o))
    (sym is)
    (chooses c.self.inside.arena.units c.self.inside.arena.blocks c.self.inside.arena.order
    c.self.invariant.1 c.args.level c.requires))

pub first-requires : goal.first-requires
first-requires c =
    (found_facts c.self.inside.arena.order c.args.level c.in_ok-least_level.field-0
    c.in_ok-least_level.ensures).1

first_some : (places : List ℕ) (place : ℕ) → has place places ≡ true
    → first_of places ≡ Some (first_or places 0)
unfolding has
first_some [] place is = cc
first_some (first ∷ rest) place is = refl

first_is : (c : goal.After-first) → c.first.result
    ≡ Some (first_or (listed c.self.inside.arena.order c.in_ok-least_level.field-0) 0)
first_is c =
    c.first.ensures
    ∙ first_some (listed c.self.inside.arena.order c.in_ok-least_level.field-0)
    (first_or (listed c.self.inside.arena.order c.in_ok-least_level.field-0) 0)
    (found_facts c.self.inside.arena.order c.args.level c.in_ok-least_level.field-0
    c.in_ok-least_level.ensures).2

pub returns-clause-pick : goal.returns-clause-pick
returns-clause-pick c =
    first_is c
    ∙ ap (option_map (λ k. first_or (listed c.self.inside.arena.order k) 0))
    c.in_ok-least_level.ensures
    ∙ ap (λ (b : BuddyStore). option_map (λ k. first_or (listed b.store.order k) 0)
    (level_found b.store.order c.args.level)) c.self.view_is

pub returns-clause-fits : goal.returns-clause-fits
returns-clause-fits c =
    subst (λ (o : Option ℕ). IsAnswer c.args.self.now.store.units c.args.self.now.store.blocks
    (2 ^ c.args.level) o) (sym (first_is c))
    (answer_then c (Some c.in_ok-least_level.field-0) c.in_ok-least_level.ensures)

pub overflow_cast-branch : goal.overflow_cast-branch
overflow_cast-branch c =
    let facts = found_facts c.self.inside.arena.order c.args.level c.in_ok-least_level.field-0
    c.in_ok-least_level.ensures in
    record { fits = omega (arith, facts.1) }
