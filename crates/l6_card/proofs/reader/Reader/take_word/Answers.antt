use Rattle.std.proofs.Common.{◌+◌, ◌∙◌, ap, sym, is_some}
use Rattle.l6_group.specs.Character.{spelled}
use Rattle.l6_group.specs.Word.{after_then}
use Rattle.l6_card.specs.Items.{word}
use Rattle.l6_card.specs.Objection.{count_solid}
use Rattle.l6_card.specs.Order.{word_reason}
use Rattle.l6_card.specs.inner.StatementBuilder.{StatementBuilder, expected_in, with_characters}
use Rattle.l6_card.specs.inner.Pass.{when_built}
use Rattle.l6_card.specs.inner.Reader.{stage_of}
use Rattle.l6_card.specs.inner.Token.{letters_of}
use Rattle.l6_card.proofs.Characters.{spelled_letters}
use Rattle.l6_card.proofs.Refusals.{form_objects, limit_objects}
use Rattle.l6_card.proofs.reader.Reader.take_word.Goals as goal

pub returns-in-Ok-clause-taken : goal.returns-in-Ok-clause-taken
returns-in-Ok-clause-taken c =
    let known = stage_of c.args.self.now in
    let columns = c.args.columns.now in
    let past = c.args.offset + count_solid columns in
    let i = word c.args.offset past (letters_of columns) in
    let made = ap (with_characters known.body.card known.builder) (spelled_letters columns) in
    ap (λ m. when_built i m known) (made ∙ c.in-Ok.ensures.taken)

pub returns-in-Err-Form-clause-taken : goal.returns-in-Err-Form-clause-taken
returns-in-Err-Form-clause-taken c =
    let known = stage_of c.args.self.now in
    let columns = c.args.columns.now in
    let past = c.args.offset + count_solid columns in
    let i = word c.args.offset past (letters_of columns) in
    let made = ap (with_characters known.body.card known.builder) (spelled_letters columns) in
    let left = rw c.in-Err-Form.field-0-is at c.in-Err-Form.ensures.left in
    let reason = c.word_reason-reason.ensures
    ∙ ap (λ (b : StatementBuilder). word_reason (expected_in b) (is_some (after_then (spelled columns)))) left
    ∙ ap (λ cs. word_reason (expected_in known.builder) (is_some (after_then cs)))
    (sym (spelled_letters columns)) in
    rw c.word_objects.ensures
    (form_objects i known.body.card _ known _
    (made ∙ rw c.in-Err-Form.field-0-is at c.in-Err-Form.ensures.taken) reason)

pub returns-in-Err-Limit-clause-taken : goal.returns-in-Err-Limit-clause-taken
returns-in-Err-Limit-clause-taken c =
    let known = stage_of c.args.self.now in
    let columns = c.args.columns.now in
    let past = c.args.offset + count_solid columns in
    let i = word c.args.offset past (letters_of columns) in
    let made = ap (with_characters known.body.card known.builder) (spelled_letters columns) in
    rw c.word_objects-in-Err-Limit.ensures
    (limit_objects i known.body.card _ known
    (made ∙ rw c.in-Err-Limit.field-0-is at c.in-Err-Limit.ensures.taken))
