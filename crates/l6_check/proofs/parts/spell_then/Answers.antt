use Rattle.std.proofs.Common.{◌≡◌, arith, refl}
use Rattle.l6_card.specs.Numerals.{card_width}
use Rattle.l6_check.proofs.StatementParts.{spelled_short}
use Rattle.l6_check.proofs.parts.spell_then.Goals as goal

pub returns-in-None : goal.returns-in-None
unfolding card_width
returns-in-None c =
    let width : card_width ≡ 72 = refl in
    absurd (omega (arith, spelled_short c.args.columns.now, width, c.requires, c.in-None.ensures))
