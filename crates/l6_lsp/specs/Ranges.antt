-- Places and ranges, as values of JSON.
use Rattle.std.specs.Prelude.{ℕ, List, codes}
use Rattle.serde_json.specs.Data.{Data, number, unsigned, object, member, no_members}
use Rattle.l6_place.specs.declared.spot.Spot.{Spot}
use Rattle.l6_place.specs.Cards.{spot_of}

abbrev pub spot_value : Spot → Data
spot_value spot = object
    (member (codes "character") (number (unsigned spot.character))
    (member (codes "line") (number (unsigned spot.line)) no_members))

abbrev pub range_value : Spot → Spot → Data
range_value start end = object
    (member (codes "end") (spot_value end)
    (member (codes "start") (spot_value start) no_members))

-- columns of a card of a deck, from one to before another
abbrev pub columns_value : List ℕ → ℕ → ℕ → ℕ → Data
columns_value deck card from to = range_value (spot_of deck card from) (spot_of deck card to)
