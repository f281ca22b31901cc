use Rattle.std.proofs.Common.{◌≤◌, ◌+◌, ◌<◌, ◌^◌, length, arith}
use Rattle.l6_place.proofs.starts.CardStarts.offset_in.Goals as goal

pub overflow_add-result : goal.overflow_add-result
overflow_add-result c = grind (arith, c.offset.ensures, c.card.ensures, c.min.ensures)

pub returns-clause-within : goal.returns-clause-within
returns-clause-within c = grind (arith, c.offset.ensures, c.card.ensures, c.min.ensures)
