use Rattle.std.proofs.Common.{◌^◌, ◌≤◌, sym, ◌∙◌, arith}
use Rattle.std.proofs.lemmas.Bool.{le-ltb, ne_eqb}
use Rattle.l6_store.proofs.Multiples.{size_le}
use Rattle.l6_trace.proofs.following.has_size.Goals as goal

pub returns-else-level-lt32 : goal.returns-else-level-lt32
returns-else-level-lt32 c =
    let high : 32 ≤ c.args.level = omega (arith, c.if-level-lt32.false) in
    let large = size_le 32 c.args.level high in
    le-ltb c.args.level 32 high
    ∙ sym (ne_eqb c.args.size (2 ^ c.args.level) (λ e. omega (arith, e, large, c.ranges.size.fits)))
