use Rattle.std.proofs.Common.{sym, arith}
use Rattle.std.proofs.lemmas.List.{length-take-le, take_all}
use Rattle.l6_dap.specs.Numerals.{most_listed}
use Rattle.l6_dap.proofs.variables.first_of.Goals as goal

pub slice_bounds-result-end : goal.slice_bounds-result-end
slice_bounds-result-end c = sym (length-take-le 1000 c.args.places.now (omega arith))

pub returns-then-places-le-MOST_BLOCKS : goal.returns-then-places-le-MOST_BLOCKS
returns-then-places-le-MOST_BLOCKS c = sym (take_all most_listed c.args.places.now (omega arith))
