use Rattle.l6_card.proofs.Bodies.{begins_following_blanks, shorter_following_blanks}
use Rattle.l6_card.proofs.item.first_item.Goals as goal

pub returns-clause-first : goal.returns-clause-first
returns-clause-first c =
    let b = c.skip_blanks.ensures.blanks in
    begins_following_blanks c.first_of.result b.0 c.args.body.now c.skip_blanks.result.now b.1 b.2
    c.first_of.ensures.first

pub returns-clause-shorter : goal.returns-clause-shorter
returns-clause-shorter c =
    shorter_following_blanks c.first_of.result c.args.body.now c.skip_blanks.result.now
    c.skip_blanks.ensures.shorter c.first_of.ensures.shorter
