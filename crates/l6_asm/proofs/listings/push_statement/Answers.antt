use Rattle.std.proofs.Common.{◌≡◌, ◌<◌, ◌≤◌, ◌++◌, ◌∙◌, length, get_or, sym, ap, rules}
use Rattle.std.specs.List.{list_all, flat_map}
use Rattle.std.proofs.lemmas.List.{append-nil}
use Rattle.l6_prog.specs.Statement.{plain_done}
use Rattle.l6_image.specs.Image.{statement_words}
use Rattle.l6_word.specs.Word.{is_word}
use Rattle.l6_asm.specs.Listing.{word_line}
use Rattle.l6_asm.proofs.StatementLines.{lines_of, lines_past, targets_known}
use Rattle.l6_asm.proofs.listings.push_statement.Goals as goal

pub push_words-requires : goal.push_words-requires
push_words-requires c =
    let s = c.statement.result.now in
    let same : c.deref.result.now ≡ c.in_ok-words.words.items = search rules in
    ap (list_all is_word) same
    ∙ c.in_ok-words.ensures.fit
    (targets_known c.args.program.now s c.statement.ensures.count c.statement.ensures.targets)

pub returns-in_ok-push_words : goal.returns-in_ok-push_words
returns-in_ok-push_words c =
    let program = c.args.program.now in
    let words = c.deref.result.now in
    let s = c.statement.result.now in
    let within : c.args.number < length program = search rules in
    let is : s ≡ get_or program c.args.number plain_done = search rules in
    let same : words ≡ statement_words s = search rules in
    let added : c.push_words.new.text.items ≡ c.args.text.now.items ++ flat_map word_line words
    = search rules in
    added ∙ ap (λ lines. c.args.text.now.items ++ lines)
    (lines_of program c.args.number s plain_done words within is same)

pub returns-else-number-statements : goal.returns-else-number-statements
returns-else-number-statements c =
    let program = c.args.program.now in
    let past : length program ≤ c.args.number = search rules in
    sym (append-nil c.args.text.now.items)
    ∙ ap (λ lines. c.args.text.now.items ++ lines) (lines_past program c.args.number past)
