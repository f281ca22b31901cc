use Rattle.std.proofs.Common.{◌≡◌, ◌∙◌, arith}
use Rattle.l6_word.specs.Numerals.{word_bits}
use Rattle.l6_word.specs.Window.{put, width, right_of}
use Rattle.l6_word.proofs.Masks.{put_by_masks, put_cut, masks_fit}
use Rattle.l6_word.proofs.window.Window.put.Goals as goal

pub from_value-requires : goal.from_value-requires
from_value-requires c =
    simp (c.mask-mask.ensures, c.shift-shift.ensures.value)
    (masks_fit c.get.result c.get-2.result (right_of c.args.self) (width c.args.self) word_bits
    c.get.ensures.range (omega arith) (omega arith))

pub returns-clause-value : goal.returns-clause-value
returns-clause-value c =
    c.from_value.ensures
    ∙ simp (
      c.mask-mask.ensures,
      c.shift-shift.ensures.value,
      c.get.ensures.value,
      c.get-2.ensures.value,
    )
    (put_by_masks c.args.word c.args.value (right_of c.args.self) (width c.args.self) (omega arith)
    (omega arith))

-- the bits that were cut off lie outside the window
pub returns-clause-cut : goal.returns-clause-cut
returns-clause-cut c number cut =
    let is : c.from_value.result ≡ put c.args.self c.args.word c.args.value
    = returns-clause-value c in
    is ∙ put_cut c.args.self c.args.word c.args.value number (omega arith) cut
