use Rattle.std.proofs.Common.{◌≡◌, ◌+◌, ◌++◌, drop, length, ◌<◌, get_or, true, rules, ap, sym, ◌∙◌, arith}
use Rattle.std.specs.List.{take_while}
use Rattle.std.proofs.lemmas.Bool.{lt-ltb}
use Rattle.l6_prog.specs.Numerals.{name_count}
use Rattle.l6_prog.specs.Chain.{is_name}
use Rattle.l6_image.specs.inner.decode.Fields.{names_in}
use Rattle.l6_image.proofs.Taken.{front-more}
use Rattle.l6_image.proofs.decode.operands.chain_in.Goals as goal

pub loop-item-preserved : goal.loop-item-preserved
loop-item-preserved c =
    let now = c.loop-item in
    let items = c.items_in-item-items.result in
    let name = c.in-Some.name in
    let is : name ≡ get_or items now.item-index 0 = search rules in
    let six : length items ≡ 6 = ap length now.invariant.items in
    let within : now.item-index < length items = omega (arith, c.loop-item-test.true, six) in
    let passes : is_name name ≡ true = lt-ltb name name_count (search rules) in
    let whole : take_while is_name items ≡ names_in c.args.word =
    ap (take_while is_name) now.invariant.items in
    record {
      items = now.invariant.items;
      count = omega (arith, c.push.ensures.len, now.invariant.count);
      names = ap (λ xs. xs ++ take_while is_name (drop (now.item-index + 1) items)) c.push.ensures.items
          ∙ front-more is_name now.names.items items now.item-index name within is
          passes (now.invariant.names ∙ sym whole)
          ∙ whole;
    }
