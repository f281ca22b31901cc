use Rattle.std.proofs.Common.{get_or, false, rules}
use Rattle.std.proofs.lemmas.Fn.{filter_same}
use Rattle.l6_draw.proofs.reach.keep_visited_place.Goals as goal

-- each call of the closure answers whether the place is visited, and leaves the visited places as
-- they are
pub returns : goal.returns
returns c =
    filter_same _ (λ place. get_or c.args.visited.now place false) _
    (λ place answer after called. search rules) _ _ c.retain.ensures.filtered
