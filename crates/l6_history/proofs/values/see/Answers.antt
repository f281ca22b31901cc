use Rattle.std.proofs.Common.{◌≡◌, ◌<◌, ◌++◌, ◌∷◌, [], get_or, length, take, sym, ap, ◌∙◌, arith}
use Rattle.std.proofs.lemmas.List.{length-map, length-set, take_more, take_more_set}
use Rattle.l6_history.specs.Stop.{value_of, values_of}
use Rattle.l6_history.proofs.ValueLists.{read_as}
use Rattle.l6_history.proofs.values.see.Goals as goal

-- a value more is seen
pub loop-index-preserved : goal.loop-index-preserved
loop-index-preserved g c =
    let index = c.loop-index.index in
    let value = c.value.result in
    let memory = c.args.machine.now.configuration.state.memory in
    let new = values_of c.args.watched.now memory in
    let before = c.loop-index.invariant in
    let many = length-map c.args.watched.now (value_of memory) in
    let within : index < length c.loop-index.values =
    omega (arith, before.many, c.loop-index-test.true) in
    let within_new : index < length new = omega (arith, many, c.loop-index-test.true) in
    let seen : value ≡ get_or new index value =
    read_as c.args.watched.now memory index c.index-watched-index.result value c.loop-index-test.true
    c.index-watched-index.is c.value.ensures in
    record {
      many = length-set c.loop-index.values index value ∙ before.many;
      seen = take_more_set c.loop-index.values index value within
          ∙ ap (λ values. values ++ value ∷ []) before.seen
          ∙ ap (λ v. take index new ++ v ∷ []) seen
          ∙ sym (take_more new index value within_new);
    }
