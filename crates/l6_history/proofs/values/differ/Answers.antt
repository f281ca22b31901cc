use Rattle.std.proofs.Common.{◌≡◌, ◌+◌, ◌<◌, ◌≤◌, drop, get_or, length, sym, ap, ◌∙◌, arith}
use Rattle.std.specs.Prelude.{◌||◌}
use Rattle.std.proofs.lemmas.List.{drop_all, length-map}
use Rattle.l6_history.specs.Stop.{some_differ, value_of, values_of}
use Rattle.l6_history.proofs.ValueLists.{differ_more, none_left, read_as}
use Rattle.l6_history.proofs.values.differ.Goals as goal

-- one that differs is found
pub returns-then-is_other : goal.returns-then-is_other
returns-then-is_other g c =
    let index = c.loop-index.index in
    let memory = c.args.machine.now.configuration.state.memory in
    let new = values_of c.args.watched.now memory in
    let value = c.value.result in
    let kept = c.in-Some.value.now in
    let found = c.in-Some.ensures.lookup in
    let within : index < length c.args.values.now = omega (arith) in
    let is : kept ≡ get_or c.args.values.now index kept = found.1 in
    let many = length-map c.args.watched.now (value_of memory) in
    let within_new : index < length new = omega (arith, many, c.loop-index-test.true) in
    let seen : value ≡ get_or new index value =
    read_as c.args.watched.now memory index c.index-watched-index.result value c.loop-index-test.true
    c.index-watched-index.is c.value.ensures in
    let more = differ_more c.args.values.now new index kept value c.is_other.result within within_new
    is seen c.is_other.ensures c.loop-index.invariant.rest in
    ap (λ b. b || some_differ (drop (index + 1) c.args.values.now) (drop (index + 1) new))
    (sym c.if-is_other.true)
    ∙ more

-- one more does not differ
pub loop-index-preserved : goal.loop-index-preserved
loop-index-preserved g c =
    let index = c.loop-index.index in
    let memory = c.args.machine.now.configuration.state.memory in
    let new = values_of c.args.watched.now memory in
    let value = c.value.result in
    let kept = c.in-Some.value.now in
    let found = c.in-Some.ensures.lookup in
    let within : index < length c.args.values.now = omega (arith) in
    let is : kept ≡ get_or c.args.values.now index kept = found.1 in
    let many = length-map c.args.watched.now (value_of memory) in
    let within_new : index < length new = omega (arith, many, c.loop-index-test.true) in
    let seen : value ≡ get_or new index value =
    read_as c.args.watched.now memory index c.index-watched-index.result value c.loop-index-test.true
    c.index-watched-index.is c.value.ensures in
    let more = differ_more c.args.values.now new index kept value c.is_other.result within within_new
    is seen c.is_other.ensures c.loop-index.invariant.rest in
    record {
      rest = ap (λ b. b || some_differ (drop (index + 1) c.args.values.now) (drop (index + 1) new))
          (sym c.if-is_other.false)
          ∙ more;
    }

-- after the last one that is watched none differs
pub returns : goal.returns
returns g c =
    let index = c.loop-index.index in
    let memory = c.args.machine.now.configuration.state.memory in
    let new = values_of c.args.watched.now memory in
    let past : length new ≤ index =
    omega (arith, length-map c.args.watched.now (value_of memory), c.loop-index-test.false) in
    sym (none_left (drop index c.args.values.now))
    ∙ ap (λ others. some_differ (drop index c.args.values.now) others) (sym (drop_all index new past))
    ∙ c.loop-index.invariant.rest
