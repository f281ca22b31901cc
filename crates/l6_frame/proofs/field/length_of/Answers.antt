use Rattle.std.proofs.Common.{◌≡◌, ◌+◌, ◌-◌, ◌*◌, suc, ap, drop, get_or, drop-cons, arith}
use Rattle.l6_frame.specs.Frame.{number_after}
use Rattle.l6_frame.proofs.Fields.{number_after_grows, too_large}
use Rattle.l6_frame.proofs.field.length_of.Goals as goal

pub returns-then-length-gt-MAX_BODY : goal.returns-then-length-gt-MAX_BODY
returns-then-length-gt-MAX_BODY c =
    let digits = c.args.digits.now in
    let i = c.loop-digit.digit-index in
    let next = c.loop-digit.length * 10 + (get_or digits i 0 - 48) in
    let step : number_after c.loop-digit.length (drop i digits)
    ≡ number_after next (drop (suc i) digits)
    = ap (number_after c.loop-digit.length) (drop-cons digits i 0 c.loop-digit-test.true) in
    let grows = number_after_grows next (drop (suc i) digits) in
    too_large digits (omega (
      arith,
      c.loop-digit.invariant.number,
      step,
      grows,
      c.from.ensures,
      c.if-length-gt-MAX_BODY.true,
    ))
