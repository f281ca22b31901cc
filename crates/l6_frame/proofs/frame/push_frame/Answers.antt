use Rattle.std.proofs.Common.{◌≡◌, ◌++◌, ◌∙◌, ℕ, List, ap, append_assoc, rules}
use Rattle.l6_frame.specs.Frame.{head_of}
use Rattle.l6_frame.proofs.frame.push_frame.Goals as goal

pub returns : goal.returns
returns c =
    let body = c.args.body.now in
    let first : c.extend_from_slice.new.self.items ≡ c.args.text.now.items ++ head_of body
    = search rules in
    c.in_ok-extend_from_slice-2.ensures.items
    ∙ ap (λ (it : List ℕ). it ++ body) first
    ∙ append_assoc c.args.text.now.items (head_of body) body
