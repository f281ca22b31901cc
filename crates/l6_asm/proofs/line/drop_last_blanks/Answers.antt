use Rattle.std.proofs.Common.{◌≡◌, ◌∙◌, drop, take, rules, refl}
use Rattle.l6_asm.proofs.Blanks.{cut_following}
use Rattle.l6_asm.proofs.line.drop_last_blanks.Goals as goal

pub returns-clause-line : goal.returns-clause-line
returns-clause-line c =
    let text = c.args.text.now.items in
    let front = c.split_at.result.0.now in
    let kept = c.without_last_blanks.result.now in
    let first : front ≡ take c.args.start text = search rules in
    let line : c.split_at.result.1.now ≡ drop c.args.start text = search rules in
    cut_following text front c.split_at.result.1.now kept c.truncate.new.self.items c.args.start first
    line c.without_last_blanks.ensures c.truncate.ensures.items
    ∙ rw (first, c.without_last_blanks.ensures, line) refl
