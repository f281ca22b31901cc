use Rattle.std.proofs.Common.{rules}
use Rattle.l6_draw.proofs.Kept.{kept_are_reached, kept_is}
use Rattle.l6_draw.proofs.reach.reachable.Goals as goal

pub returns-clause-reached : goal.returns-clause-reached
returns-clause-reached g c =
    kept_are_reached c.args.machine.now.configuration.state.memory c.in_ok-places.places.items
    c.keep_visited_place.new.places.items c.in_ok-visited.visited.items
    (search rules) c.in_ok-visited.ensures
    (search rules)

pub returns-clause-value : goal.returns-clause-value
returns-clause-value g c =
    kept_is c.args.machine.now.configuration.state.memory c.in_ok-places.places.items
    c.keep_visited_place.new.places.items c.in_ok-visited.visited.items
    (search rules) c.in_ok-visited.ensures
    (search rules)
