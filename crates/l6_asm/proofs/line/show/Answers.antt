use Rattle.std.proofs.Common.{◌≡◌, ◌<◌, length, get_or, rules}
use Rattle.l6_asm.specs.Listing.{shown}
use Rattle.l6_asm.proofs.Columns.{shown_more}
use Rattle.l6_asm.proofs.line.show.Goals as goal

pub loop-column-preserved : goal.loop-column-preserved
loop-column-preserved c =
    let items = c.loop-column.column-items in
    let place = c.loop-column.column-index in
    let within : place < length c.args.columns.now = search rules in
    let is : c.char_of.result ≡ shown (get_or items place 0) = search rules in
    shown_more shown c.args.columns.now items place c.char_of.result within c.loop-column.invariant is
