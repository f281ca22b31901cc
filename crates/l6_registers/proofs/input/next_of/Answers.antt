use Rattle.std.proofs.Common.{◌<◌, ◌∙◌, arith, inl, inr}
use Rattle.l6_word.specs.Numerals.{input_width}
use Rattle.l6_registers.proofs.Inputs.{inside_by, inside_next, over_at, width_is}
use Rattle.l6_registers.proofs.input.next_of.Goals as goal

-- after a line that has its width there is another
pub next_in_line-requires-clause-some : goal.next_in_line-requires-clause-some
next_in_line-requires-clause-some c =
    inside_next input_width c.args.column c.args.place c.args.codes.now c.requires.some
    c.if-codes-place-eq-LINE_END.true (omega (arith, c.if-column-ge-INPUT_WIDTH.true, width_is))

pub next_in_line-requires-clause-blank : goal.next_in_line-requires-clause-blank
next_in_line-requires-clause-blank c = λ _. omega (arith, width_is)

-- a line that has not goes on
pub next_in_line-requires-else-codes-place-eq-LINE_END-clause-blank :
    goal.next_in_line-requires-else-codes-place-eq-LINE_END-clause-blank
next_in_line-requires-else-codes-place-eq-LINE_END-clause-blank c = λ is.
    elim c.else-codes-place-eq-LINE_END.either as (λ _. c.args.column < input_width) [
      | inl below ↦ omega (arith, below.1, width_is)
      | inr other ↦ absurd (other is)
    ]

-- the next character is in the next line
pub returns-then-column-ge-INPUT_WIDTH-clause-value :
    goal.returns-then-column-ge-INPUT_WIDTH-clause-value
returns-then-column-ge-INPUT_WIDTH-clause-value c =
    over_at input_width c.args.column c.args.place c.args.codes.now
    (inside_by input_width c.args.column c.args.place c.args.codes.now c.requires.some)
    c.if-codes-place-eq-LINE_END.true (omega (arith, c.if-column-ge-INPUT_WIDTH.true, width_is))
    ∙ c.next_in_line.ensures.value
