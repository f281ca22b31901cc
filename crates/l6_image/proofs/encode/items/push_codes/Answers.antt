use Rattle.std.proofs.Common.{◌∙◌, rules}
use Rattle.l6_image.proofs.Sixes.{sixes_more}
use Rattle.l6_image.proofs.encode.items.push_codes.Goals as goal

pub loop-rest-preserved : goal.loop-rest-preserved
loop-rest-preserved c =
    let now = c.loop-rest in
    sixes_more now.words.items c.push.new.self.items now.rest.now c.split_at.result.1.now
    c.min.result (search rules) c.min.ensures c.split_at.ensures.back (search rules)
    ∙ now.invariant
