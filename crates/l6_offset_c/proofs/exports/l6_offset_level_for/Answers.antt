use Rattle.std.proofs.Common.{arith}
use Rattle.l6_places.specs.Numerals.{largest_top}
use Rattle.l6_places.proofs.Multiples.{size_le}
use Rattle.l6_offset_c.proofs.exports.l6_offset_level_for.Goals as goal

pub returns-in-Some-clause-none : goal.returns-in-Some-clause-none
returns-in-Some-clause-none c = λ many.
    absurd (omega (
      arith,
      many,
      c.in-Some.ensures.enough,
      size_le c.in-Some.level largest_top c.in-Some.ensures.small,
    ))

pub returns-in-None-clause-level : goal.returns-in-None-clause-level
returns-in-None-clause-level c = λ level is.
    absurd (omega (arith, c.in-None.ensures.none, is.enough, size_le level largest_top is.small))
