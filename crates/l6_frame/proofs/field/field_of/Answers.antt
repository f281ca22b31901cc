use Rattle.std.proofs.Common.{◌∙◌, ap, sym}
use Rattle.std.specs.Str.{byte}
use Rattle.l6_word.specs.Split.{IsCutAt}
use Rattle.l6_word.specs.Lines.{without_return}
use Rattle.l6_frame.specs.Frame.{length_of}
use Rattle.l6_frame.proofs.Fields.{other_field, given_length, wrong_length}
use Rattle.l6_frame.proofs.field.field_of.Goals as goal

pub returns-then-not-eq_ignore_ascii_case : goal.returns-then-not-eq_ignore_ascii_case
returns-then-not-eq_ignore_ascii_case c =
    let cut : IsCutAt (byte ":") (without_return c.args.line.now) c.in-Some.name.now c.in-Some.value.now
    = rw c.without_return.ensures.value at c.in-Some.ensures.parts in
    other_field c.args.line.now cut
    (λ same. absurd (cc (c.eq_ignore_ascii_case.ensures.test.1 same, c.if-not-eq_ignore_ascii_case.true)))

pub returns-in-None : goal.returns-in-None
returns-in-None c =
    let cut : IsCutAt (byte ":") (without_return c.args.line.now) c.in-Some.name.now c.in-Some.value.now
    = rw c.without_return.ensures.value at c.in-Some.ensures.parts in
    wrong_length c.args.line.now cut
    (c.eq_ignore_ascii_case.ensures.test.0 c.if-not-eq_ignore_ascii_case.false)
    (ap length_of (sym c.without_blanks.ensures) ∙ sym c.length_of.ensures ∙ c.in-None.is)

pub returns-in-Some-length_of : goal.returns-in-Some-length_of
returns-in-Some-length_of c =
    let cut : IsCutAt (byte ":") (without_return c.args.line.now) c.in-Some.name.now c.in-Some.value.now
    = rw c.without_return.ensures.value at c.in-Some.ensures.parts in
    given_length c.args.line.now c.in-Some-length_of.length cut
    (c.eq_ignore_ascii_case.ensures.test.0 c.if-not-eq_ignore_ascii_case.false)
    (ap length_of (sym c.without_blanks.ensures) ∙ sym c.length_of.ensures
    ∙ c.in-Some-length_of.is)
