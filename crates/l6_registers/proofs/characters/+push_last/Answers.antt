use Rattle.std.proofs.Common.{◌-◌, ◌/◌, ◌∙◌, ap, arith, length, length-append, lit<}
use Rattle.l6_word.specs.Numerals.{code_count}
use Rattle.l6_steps.specs.Characters.{last_characters}
use Rattle.l6_registers.proofs.Lasts.{length_last}
use Rattle.l6_registers.proofs.characters.+push_last.Goals as goal

-- there is room for one more
pub push-requires : goal.push-requires
push-requires t c =
    let more = last_characters (c.args.count - 1) (c.args.number / code_count) in
    let long =
    ap (λ cs. length cs) c.push_last.ensures
    ∙ length-append c.args.text.now.items more in
    let count = length_last (c.args.count - 1) (c.args.number / code_count) in
    (lit< tt, omega (arith, long, count, c.requires, c.if-count-gt0.true))
