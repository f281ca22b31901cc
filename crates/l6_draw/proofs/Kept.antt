-- The places that are kept are those that are reached.
use Rattle.std.proofs.Common.{◌≡◌, ℕ, Bool, false, List, ap, ◌∙◌, sym, subst, get_or}
use Rattle.std.proofs.lemmas.List.Elements.{filter_agree}
use Rattle.std.specs.List.{filter}
use Rattle.std.specs.FinMap as places
use Rattle.l6_steps.specs.State.{Memory}
use Rattle.l6_draw.specs.Reach.{AreReachable, is_reached, reached_places}
use Rattle.l6_draw.proofs.Reaching.{are_reached}

pub kept_is : (memory : Memory) (found kept : List ℕ) (visited : List Bool)
    → found ≡ places.keys memory.blocks
    → ((place : ℕ) → get_or visited place false ≡ is_reached memory place)
    → kept ≡ filter (λ place. get_or visited place false) found → kept ≡ reached_places memory
kept_is memory found kept visited all determined is =
    is ∙ filter_agree (λ place. get_or visited place false) (is_reached memory) determined found
    ∙ ap (filter (is_reached memory)) all

pub kept_are_reached : (memory : Memory) (found kept : List ℕ) (visited : List Bool)
    → found ≡ places.keys memory.blocks
    → ((place : ℕ) → get_or visited place false ≡ is_reached memory place)
    → kept ≡ filter (λ place. get_or visited place false) found → AreReachable memory kept
kept_are_reached memory found kept visited all determined is =
    subst (λ (reached : List ℕ). AreReachable memory reached)
    (sym (kept_is memory found kept visited all determined is)) (are_reached memory)
