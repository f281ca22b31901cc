-- What a tally has counted.
use Rattle.l6_trace.specs.Tallying.{Tallied}
use Rattle.l6_trace.specs.declared.tally.Tally.{Tally}

abbrev pub tallied : Tally → Tallied
tallied t = record {
  asked = t.asked.items;
  all = t.all;
  given = t.given;
  wanted = t.wanted;
  refused = t.refused;
  fragmented = t.fragmented;
}
