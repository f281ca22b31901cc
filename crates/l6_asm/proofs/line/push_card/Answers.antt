use Rattle.std.proofs.Common.{◌≡◌, ◌+◌, ◌≤◌, length, vec_capacity, arith, refl, rules}
use Rattle.l6_card.specs.Numerals.{card_width}
use Rattle.l6_asm.specs.declared.line.TheConstants.{MAX_LINE_BYTES}
use Rattle.l6_asm.proofs.line.push_card.Goals as goal

-- with room for the line there is room for its columns
pub returns-in_err-push_columns-clause-succeeds : goal.returns-in_err-push_columns-clause-succeeds
unfolding card_width
returns-in_err-push_columns-clause-succeeds c = λ narrow room.
    let most : MAX_LINE_BYTES ≡ 116 = refl in
    let width : card_width ≡ 72 = refl in
    let fits : length c.push_blanks-2.new.text.items + length c.args.columns.now
    ≤ vec_capacity c.push_blanks-2.new.text =
    omega (
      arith,
      narrow,
      room,
      most,
      width,
      c.in_ok-push_number.ensures.count,
      c.in_ok-push_number.ensures.capacity,
      c.in_ok-push_blanks.ensures.count,
      c.in_ok-push_blanks.ensures.capacity,
      c.in_ok-push_number-2.ensures.count,
      c.in_ok-push_number-2.ensures.capacity,
      c.in_ok-push_blanks-2.ensures.count,
      c.in_ok-push_blanks-2.ensures.capacity,
    ) in
    search (rules, fits)

-- and for its line feed
pub returns-clause-succeeds : goal.returns-clause-succeeds
unfolding card_width
returns-clause-succeeds c = λ narrow room.
    let most : MAX_LINE_BYTES ≡ 116 = refl in
    let width : card_width ≡ 72 = refl in
    let fits : length c.drop_last_blanks.new.text.items + 1
    ≤ vec_capacity c.drop_last_blanks.new.text =
    omega (
      arith,
      narrow,
      room,
      most,
      width,
      c.in_ok-push_number.ensures.count,
      c.in_ok-push_number.ensures.capacity,
      c.in_ok-push_blanks.ensures.count,
      c.in_ok-push_blanks.ensures.capacity,
      c.in_ok-push_number-2.ensures.count,
      c.in_ok-push_number-2.ensures.capacity,
      c.in_ok-push_blanks-2.ensures.count,
      c.in_ok-push_blanks-2.ensures.capacity,
      c.in_ok-push_columns.ensures.count,
      c.in_ok-push_columns.ensures.capacity,
      c.drop_last_blanks.ensures.shorter,
      c.drop_last_blanks.ensures.capacity,
    ) in
    search (rules, fits)
