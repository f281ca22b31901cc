use Rattle.std.proofs.Common.{◌∙◌, ap}
use Rattle.l6_word.specs.Lines.{lines_of}
use Rattle.l6_asm.specs.inner.CardsLeft.{cards_left}
use Rattle.l6_asm.proofs.CardsLeft.{left_listed}
use Rattle.l6_asm.proofs.card_lines.CardLines.new.Goals as goal

pub returns : goal.returns
returns c = λ program are.
    let lines = lines_of c.args.deck.now in
    ap (λ words. cards_left words 0 0 lines) (c.as_slice.ensures.value ∙ are)
    ∙ left_listed program 0 0 lines
