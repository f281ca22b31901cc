use Rattle.std.proofs.Common.{◌≡◌, ℕ, ◌^◌, Option, Some, None, refl, ap, ◌∙◌, sym, subst, arith, replicate}
use Rattle.std.specs.FinMap as finite
use Rattle.l6_store.specs.Blocks.{Blocks}
use Rattle.l6_store.specs.BuddyStore.{BuddyStore}
use Rattle.l6_store.specs.Open.{IsAnswer}
use Rattle.l6_store.specs.Buddy.{first_or, level_found, listed, without}
use Rattle.std.specs.Option.{option_map}
use Rattle.l6_store.specs.Rule.{Order}
use Rattle.l6_store.proofs.Counts.{listed_other}
use Rattle.l6_store.proofs.Gathered.{get_insert_same}
use Rattle.l6_store.proofs.Finding.{chooses, found_least}
use Rattle.l6_store.specs.Tiles.{Tiles}
use Rattle.l6_store.specs.inner.ArenaLayout.{ArenaLayout}
use Rattle.l6_store.proofs.Stores.{found_facts, got_filled, is_detached, sound_store}
use Rattle.l6_store.proofs.buddy.BuddyPlaces.get.Goals as goal

-- the place picked answers, by the level that was found
answer : (c : goal.After-from_residual) → (found : Option ℕ)
    → found ≡ level_found c.self.inside.arena.order c.args.level
    → IsAnswer c.args.self.now.store.units c.args.self.now.store.blocks (2 ^ c.args.level)
    (option_map (λ k. first_or (listed c.self.inside.arena.order k) 0) found)
answer c found is =
    subst (λ (b : BuddyStore). IsAnswer b.store.units b.store.blocks (2 ^ c.args.level)
    (option_map (λ k. first_or (listed c.self.inside.arena.order k) 0) found)) c.self.view_is
    (subst (λ (o : Option ℕ). IsAnswer c.self.inside.arena.units c.self.inside.arena.blocks
    (2 ^ c.args.level) (option_map (λ k. first_or (listed c.self.inside.arena.order k) 0) o))
    (sym is)
    (chooses c.self.inside.arena.units c.self.inside.arena.blocks c.self.inside.arena.order
    c.self.invariant.1 c.args.level c.requires))

pub returns-in_err-found-clause-fits : goal.returns-in_err-found-clause-fits
returns-in_err-found-clause-fits c =
    subst (λ (o : Option ℕ). IsAnswer c.args.self.now.store.units c.args.self.now.store.blocks
    (2 ^ c.args.level) o) (sym c.from_residual.ensures) (answer c None c.in_err-found.ensures)

pub returns-in_err-found-clause-sound : goal.returns-in_err-found-clause-sound
returns-in_err-found-clause-sound c =
    sound_store c.self.inside.arena 0 c.self.invariant.0 c.self.invariant.1

pub pop-place-requires-clause-level : goal.pop-place-requires-clause-level
pop-place-requires-clause-level c =
    (found_facts c.self.inside.arena.order c.args.level c.in_ok-found.found
    c.in_ok-found.ensures).1

pub pop-place-requires-clause-there : goal.pop-place-requires-clause-there
pop-place-requires-clause-there c =
    (found_facts c.self.inside.arena.order c.args.level c.in_ok-found.found
    c.in_ok-found.ensures).2

pub open_piece-requires-clause-enough : goal.open_piece-requires-clause-enough
open_piece-requires-clause-enough c =
    (found_facts c.self.inside.arena.order c.args.level c.in_ok-found.found
    c.in_ok-found.ensures).0

pub open_piece-requires-clause-least : goal.open_piece-requires-clause-least
open_piece-requires-clause-least c = λ k from before.
    let order = c.self.inside.arena.order in
    ap (λ (o : Order). listed o k) c.pop-place.ensures.order
    ∙ listed_other order c.in_ok-found.found k
    (without c.pop-place.result (listed order c.in_ok-found.found))
    (λ same. absurd (omega (arith, before, same)))
    ∙ found_least order c.args.level c.in_ok-found.found c.in_ok-found.ensures k from before

pub open_piece-requires-clause-held : goal.open_piece-requires-clause-held
open_piece-requires-clause-held c =
    is_detached c.self.inside.arena c.self.invariant.0 c.self.invariant.1 c.args.level
    c.in_ok-found.found
    c.pop-place.result c.in_ok-found.ensures c.pop-place.new.self c.pop-place.ensures.units
    c.pop-place.ensures.blocks c.pop-place.ensures.order c.pop-place.ensures.first

-- the arena with the halved pieces, before the block is opened
halved : (c : goal.After-open_piece) → ArenaLayout
halved c = record {
  units = c.open_piece.new.arena.units;
  blocks = c.pop-place.new.self.blocks;
  order = c.open_piece.new.arena.order;
  words = c.open_piece.new.arena.words;
  heads = c.open_piece.new.arena.heads;
}

tiled : (c : goal.After-open_piece)
    → Tiles c.open_piece.new.arena.units c.open_piece.new.arena.blocks c.open_piece.new.arena.order
unfolding halved
tiled c =
    got_filled c.self.inside.arena c.self.invariant.0 c.self.invariant.1 c.args.level
    c.in_ok-found.found
    c.pop-place.result c.in_ok-found.ensures c.pop-place.new.self c.pop-place.ensures.units
    c.pop-place.ensures.blocks c.pop-place.ensures.order c.pop-place.ensures.first
    (halved c) c.open_piece.ensures.units refl c.open_piece.ensures.order
    c.open_piece.new.arena refl c.open_piece.ensures.blocks refl

pub invariant_of-self-2 : goal.invariant_of-self-2
invariant_of-self-2 c =
    let facts = found_facts c.self.inside.arena.order c.args.level c.in_ok-found.found
    c.in_ok-found.ensures in
    (c.open_piece.ensures.sound, tiled c, omega (arith, c.open_piece.ensures.moves, facts.1))

-- the place picked answer_thens, by the level that was found
answer_then : (c : goal.After-open_piece) → (found : Option ℕ)
    → found ≡ level_found c.self.inside.arena.order c.args.level
    → IsAnswer c.args.self.now.store.units c.args.self.now.store.blocks (2 ^ c.args.level)
    (option_map (λ k. first_or (listed c.self.inside.arena.order k) 0) found)
answer_then c found is =
    subst (λ (b : BuddyStore). IsAnswer b.store.units b.store.blocks (2 ^ c.args.level)
    (option_map (λ k. first_or (listed c.self.inside.arena.order k) 0) found)) c.self.view_is
    (subst (λ (o : Option ℕ). IsAnswer c.self.inside.arena.units c.self.inside.arena.blocks
    (2 ^ c.args.level) (option_map (λ k. first_or (listed c.self.inside.arena.order k) 0) o))
    (sym is)
    (chooses c.self.inside.arena.units c.self.inside.arena.blocks c.self.inside.arena.order
    c.self.invariant.1 c.args.level c.requires))

pub returns-clause-fits : goal.returns-clause-fits
returns-clause-fits c =
    subst (λ (p : ℕ). IsAnswer c.args.self.now.store.units c.args.self.now.store.blocks
    (2 ^ c.args.level) (Some p)) (sym (c.open_piece.ensures.place ∙ c.pop-place.ensures.first))
    (answer_then c (Some c.in_ok-found.found) c.in_ok-found.ensures)

pub returns-clause-block : goal.returns-clause-block
returns-clause-block c =
    ap (λ (b : Blocks). finite.get b c.open_piece.result) c.open_piece.ensures.blocks
    ∙ ap (finite.get (finite.insert c.pop-place.new.self.blocks c.pop-place.result
    (replicate (2 ^ c.args.level) 0))) c.open_piece.ensures.place
    ∙ get_insert_same _ c.pop-place.result (replicate (2 ^ c.args.level) 0)

pub returns-clause-sound : goal.returns-clause-sound
returns-clause-sound c =
    sound_store c.open_piece.new.arena c.open_piece.new.moves c.open_piece.ensures.sound (tiled c)
