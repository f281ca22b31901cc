use Rattle.std.proofs.Common.{◌≡◌, ◌<◌, ◌≤◌, ◌+◌, ◌∷◌, ◌∙◌, ap, drop, length, refl, subst, sym}
use Rattle.l6_word.specs.Numerals.{input_width}
use Rattle.l6_registers.specs.inner.Input.{Fed, characters_in, spread}
use Rattle.l6_registers.proofs.Inputs.{fed_next, tail_of}
use Rattle.l6_registers.proofs.input.Input.next.Goals as goal

-- the codes are those that are shared
lent : (c : goal.After-self-3-1) → c.as_slice.result.now ≡ c.self.inside.codes.value.items
lent c = rw c.as_slice.ensures.value (rw c.as_ref.ensures refl)

-- the character that is where the input says
found : (c : goal.After-self-3-1) →
    spread input_width c.self.inside.column (drop c.self.inside.place c.self.inside.codes.value.items)
    ≡ c.next_of-code.result.0
    ∷ spread input_width c.next_of-code.result.2
    (drop c.next_of-code.result.1 c.self.inside.codes.value.items)
found c =
    subst
    (λ cs.
    spread input_width c.self.inside.column (drop c.self.inside.place cs)
    ≡ c.next_of-code.result.0
    ∷ spread input_width c.next_of-code.result.2 (drop c.next_of-code.result.1 cs))
    (lent c) c.next_of-code.ensures.value

-- one more is taken
pub invariant_of-self : goal.invariant_of-self
invariant_of-self c =
    let inside = c.self.inside in
    fed_next inside.codes.value.items inside.count inside.taken inside.place inside.column
    c.next_of-code.result.0 c.next_of-code.result.1 c.next_of-code.result.2 c.self.invariant
    (subst (λ (fed : Fed). 0 < length (drop fed.taken fed.characters)) (sym c.self.view_is)
    c.requires)
    (found c) c.next_of-code.ensures.near
    (subst (λ cs. c.next_of-code.result.1 ≤ length cs) (lent c)
    c.next_of-code.ensures.inside)

-- which is the first that was left
pub returns-clause-value : goal.returns-clause-value
returns-clause-value c =
    let inside = c.self.inside in
    let chars = characters_in inside.codes.value.items in
    let first = sym c.self.invariant.left ∙ found c in
    let following =
    tail_of chars _ inside.taken c.next_of-code.result.0 first in
    subst
    (λ (fed : Fed). drop fed.taken fed.characters
    ≡ c.next_of-code.result.0 ∷ drop (inside.taken + 1) fed.characters)
    c.self.view_is
    (first ∙ ap (λ cs. c.next_of-code.result.0 ∷ cs) (sym following))
