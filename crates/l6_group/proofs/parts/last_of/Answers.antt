use Rattle.std.proofs.Common.{◌≡◌, ℕ, List, ◌∷◌, ap, sym, ◌∙◌}
use Rattle.l6_group.specs.Element.{elements_of}
use Rattle.l6_group.specs.Objection.{last_of}
use Rattle.l6_group.proofs.Cuts.{has_element}
use Rattle.l6_group.proofs.parts.last_of.Goals as goal

-- the last element of those after the first one is the last of all
last_following : (first others : List ℕ) →
    last_of (first ∷ elements_of others) ≡ last_of (elements_of others)
last_following first others =
    let all = (has_element others).all in
    ap (λ elements. last_of (first ∷ elements)) all ∙ sym (ap last_of all)

pub loop-others-preserved : goal.loop-others-preserved
loop-others-preserved c =
    let cut = rw c.in_default-Some.is-1 at c.first_of.ensures.first in
    sym (last_following c.first_of.result.0.now c.in_default-Some.others.now) ∙ sym (ap last_of cut)
    ∙ c.loop-others.invariant
