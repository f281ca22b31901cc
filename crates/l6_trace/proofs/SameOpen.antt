-- A store's open places are those of its board.
use Rattle.std.proofs.Common.{arith}
use Rattle.l6_trace.specs.Boards.{SameOpen}

pub same_open : SameOpen
same_open units blocks marks size place m = (
  λ o. record {
    aligned = o.aligned;
    above = o.above;
    within = o.within;
    free = λ start level at begins from under more.
        let b = m.begun start level begins in
        omega (arith, b.2, o.free start b.0 at b.1 from under more);
  },
  λ o. record {
    aligned = o.aligned;
    above = o.above;
    within = o.within;
    free = λ start words at is from under more.
        let b = m.marked start words is in
        omega (arith, b.2, o.free start b.0 at b.1 from under more);
  },
)
