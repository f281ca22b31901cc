use Rattle.std.proofs.Common.{◌≡◌, ◌-◌, ◌++◌, ap, length, rules, ◌∙◌}
use Rattle.std.specs.Prelude.{replicate}
use Rattle.std.specs.Str.{byte}
use Rattle.l6_session.specs.Help.{cell_text}
use Rattle.l6_session.specs.Numerals.{cell_places}
use Rattle.l6_marks.proofs.Pushing.{added_length, on_ok, text_on}
use Rattle.l6_session.proofs.help.push_first.Goals as goal

-- the cell, and as many blanks as its length leaves
pub returns : goal.returns
returns c =
    let old = c.args.text.now.items in
    let cell = cell_text c.args.verb in
    let now = c.push_cell.new.text.items in
    let added = added_length old cell c.in_ok-push_cell.ensures in
    let count : c.saturating_sub.result ≡ cell_places - length cell = search (rules, added) in
    on_ok c.push_blanks.result
    (λ last.
    text_on old cell (replicate (cell_places - length cell) (byte " ")) c.in_ok-push_cell.ensures
    (last ∙ ap (λ n. now ++ replicate n (byte " ")) count))
    c.push_blanks.ensures
