use Rattle.std.proofs.Common.{arith, refl}
use Rattle.l6_check.proofs.StatementParts.{part_counted, part_next}
use Rattle.l6_check.proofs.parts.Parts.next.Goals as goal

pub returns : goal.returns
returns c =
    let line = c.in_ok-others.field-0-0.now in
    let further = c.past_statement-following.result.further in
    let split = c.in_ok-others.ensures.lines in
    let counted = c.past_statement-following.ensures.count in
    record {
      number = refl;
      text = refl;
      left = refl;
      parts = part_next line further split counted c.past_statement-following.ensures.following;
      counted = part_counted line further split counted;
      positive = omega arith;
      fewer = omega (arith, c.past_statement-following.ensures.shorter, c.in_ok-others.ensures.shorter);
      shorter = omega (arith, c.past_statement-following.ensures.shorter, c.in_ok-others.ensures.shorter);
    }
