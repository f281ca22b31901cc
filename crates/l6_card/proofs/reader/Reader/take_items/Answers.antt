use Rattle.std.proofs.Common.{arith, ◌≡◌, ◌≤◌, ◌+◌, ◌-◌, ◌∙◌, [], Ok, Err, IfSome, length, length-append, sym, ap, subst}
use Rattle.std.proofs.lemmas.Result.{err_from_is_err_and}
use Rattle.l6_card.specs.declared.card.Body.{Body}
use Rattle.l6_card.specs.declared.objection.Reason.TheVariants.{Unclosed, Unopened}
use Rattle.l6_card.specs.Items.{group, word, items_of, unclosed, unopened}
use Rattle.l6_card.specs.Objection.{count_solid, item_objects, objection_in}
use Rattle.l6_card.specs.Pieces.{item}
use Rattle.l6_card.specs.inner.Kinds.{body_seen}
use Rattle.l6_card.specs.inner.Pass.{after_piece}
use Rattle.l6_card.specs.inner.Reader.{stage_of}
use Rattle.l6_card.specs.inner.Token.{letters_of}
use Rattle.l6_card.proofs.Passes.{group_split, word_split, item_goes, item_stops}
use Rattle.l6_card.proofs.Refusals.{same_place, unclosed_objects, unopened_objects}
use Rattle.l6_card.proofs.reader.Reader.take_items.Goals as goal

pub overflow_sub-opening-in-Group : goal.overflow_sub-opening-in-Group
overflow_sub-opening-in-Group c =
    let body = c.args.self.now.body in
    let end = body.offset + length body.columns.now in
    let left : body.offset + length c.loop-columns.rest.now ≤ end = c.loop-columns.invariant.left in
    let one = c.in-Group.ensures.first (end - length c.loop-columns.rest.now) in
    omega (arith, one.ends, one.after, left)

pub overflow_sub-opening-in-Group-2 : goal.overflow_sub-opening-in-Group-2
overflow_sub-opening-in-Group-2 c =
    let body = c.args.self.now.body in
    let end = body.offset + length body.columns.now in
    let left : body.offset + length c.loop-columns.rest.now ≤ end = c.loop-columns.invariant.left in
    let one = c.in-Group.ensures.first (end - length c.loop-columns.rest.now) in
    omega (arith, one.ends, one.after, left)

pub take_group-requires : goal.take_group-requires
take_group-requires c =
    let body = c.args.self.now.body in
    let end = body.offset + length body.columns.now in
    let left : body.offset + length c.loop-columns.rest.now ≤ end = c.loop-columns.invariant.left in
    let one = c.in-Group.ensures.first (end - length c.loop-columns.rest.now) in
    let stays = c.loop-columns.invariant.stays in
    let opening = end - length c.in-Group.following.now - length c.in-Group.columns.now - 2 in
    let after : body.offset ≤ opening = omega (arith, one.ends, one.after, left) in
    record {
      end = omega (arith, one.ends, one.after, left, c.requires.ends);
      begin = subst (λ (b : Body). length b.front.now ≤ b.offset) (sym stays) c.requires.begins;
      after = subst (λ (b : Body). b.offset ≤ opening) (sym stays) after;
    }

pub returns-in_err-take_group-in-Group : goal.returns-in_err-take_group-in-Group
returns-in_err-take_group-in-Group c =
    let body = c.args.self.now.body in
    let end = body.offset + length body.columns.now in
    let rest = c.loop-columns.rest.now in
    let left : body.offset + length rest ≤ end = c.loop-columns.invariant.left in
    let within : length rest ≤ end = omega (arith, left) in
    let one = c.in-Group.ensures.first (end - length rest) in
    let columns = c.in-Group.columns.now in
    let split = group_split end rest columns c.in-Group.following.now within one in
    let i = group (end - length c.in-Group.following.now - length columns - 2) columns in
    let found = objection_in c.in_err-take_group-in-Group.field-0.0 in
    let known = stage_of c.loop-columns.self in
    let stops = subst (λ (b : Body). IfSome found (λ o. after_piece known (item b.card i) ≡ Err o))
    c.loop-columns.invariant.stays c.in_err-take_group-in-Group.ensures.taken in
    let p = err_from_is_err_and c.from_residual.result c.from_residual.ensures.1 in
    rw (p.1, p.2) (item_stops body.card known _ found split c.loop-columns.invariant.pass stops)

pub loop-columns-preserved-in-Group : goal.loop-columns-preserved-in-Group
loop-columns-preserved-in-Group c =
    let body = c.args.self.now.body in
    let end = body.offset + length body.columns.now in
    let rest = c.loop-columns.rest.now in
    let left : body.offset + length rest ≤ end = c.loop-columns.invariant.left in
    let within : length rest ≤ end = omega (arith, left) in
    let one = c.in-Group.ensures.first (end - length rest) in
    let columns = c.in-Group.columns.now in
    let split = group_split end rest columns c.in-Group.following.now within one in
    let i = group (end - length c.in-Group.following.now - length columns - 2) columns in
    let known = stage_of c.loop-columns.self in
    let next = stage_of c.take_group.new.self in
    let goes = subst (λ (b : Body). after_piece known (item b.card i) ≡ Ok next)
    c.loop-columns.invariant.stays c.in_ok-take_group-in-Group.ensures.taken in
    let fewer : body.offset + length c.in-Group.following.now ≤ end =
    omega (arith, c.in-Group.ensures.shorter, left) in
    record {
      pass = item_goes body.card known next _ split c.loop-columns.invariant.pass goes;
      left = fewer;
      stays = c.take_group.ensures.stays ∙ c.loop-columns.invariant.stays;
    }

pub overflow_sub-opening-in-Word-2 : goal.overflow_sub-opening-in-Word-2
overflow_sub-opening-in-Word-2 c =
    let body = c.args.self.now.body in
    let end = body.offset + length body.columns.now in
    let left : body.offset + length c.loop-columns.rest.now ≤ end = c.loop-columns.invariant.left in
    let one = c.in-Word.ensures.first (end - length c.loop-columns.rest.now) in
    omega (arith, one.ends, one.after, left)

pub take_word-requires : goal.take_word-requires
take_word-requires c =
    let body = c.args.self.now.body in
    let end = body.offset + length body.columns.now in
    let left : body.offset + length c.loop-columns.rest.now ≤ end = c.loop-columns.invariant.left in
    let one = c.in-Word.ensures.first (end - length c.loop-columns.rest.now) in
    let stays = c.loop-columns.invariant.stays in
    let opening = end - length c.in-Word.following.now - length c.in-Word.columns.now in
    let after : body.offset ≤ opening = omega (arith, one.ends, one.after, left) in
    record {
      end = omega (arith, one.ends, one.after, left, c.requires.ends);
      begin = subst (λ (b : Body). length b.front.now ≤ b.offset) (sym stays) c.requires.begins;
      after = subst (λ (b : Body). b.offset ≤ opening) (sym stays) after;
    }

pub returns-in_err-take_word-in-Word : goal.returns-in_err-take_word-in-Word
returns-in_err-take_word-in-Word c =
    let body = c.args.self.now.body in
    let end = body.offset + length body.columns.now in
    let rest = c.loop-columns.rest.now in
    let left : body.offset + length rest ≤ end = c.loop-columns.invariant.left in
    let within : length rest ≤ end = omega (arith, left) in
    let one = c.in-Word.ensures.first (end - length rest) in
    let columns = c.in-Word.columns.now in
    let split = word_split end rest columns c.in-Word.following.now within one in
    let opening = end - length c.in-Word.following.now - length columns in
    let i = word opening (opening + count_solid columns) (letters_of columns) in
    let found = objection_in c.in_err-take_word-in-Word.field-0.0 in
    let known = stage_of c.loop-columns.self in
    let stops = subst (λ (b : Body). IfSome found (λ o. after_piece known (item b.card i) ≡ Err o))
    c.loop-columns.invariant.stays c.in_err-take_word-in-Word.ensures.taken in
    let p = err_from_is_err_and c.from_residual-in_err-take_word-in-Word.result
    c.from_residual-in_err-take_word-in-Word.ensures.1 in
    rw (p.1, p.2) (item_stops body.card known _ found split c.loop-columns.invariant.pass stops)

pub loop-columns-preserved : goal.loop-columns-preserved
loop-columns-preserved c =
    let body = c.args.self.now.body in
    let end = body.offset + length body.columns.now in
    let rest = c.loop-columns.rest.now in
    let left : body.offset + length rest ≤ end = c.loop-columns.invariant.left in
    let within : length rest ≤ end = omega (arith, left) in
    let one = c.in-Word.ensures.first (end - length rest) in
    let columns = c.in-Word.columns.now in
    let split = word_split end rest columns c.in-Word.following.now within one in
    let opening = end - length c.in-Word.following.now - length columns in
    let i = word opening (opening + count_solid columns) (letters_of columns) in
    let known = stage_of c.loop-columns.self in
    let next = stage_of c.take_word.new.self in
    let goes = subst (λ (b : Body). after_piece known (item b.card i) ≡ Ok next)
    c.loop-columns.invariant.stays c.in_ok-take_word-in-Word.ensures.taken in
    let fewer : body.offset + length c.in-Word.following.now ≤ end =
    omega (arith, c.in-Word.ensures.shorter, left) in
    record {
      pass = item_goes body.card known next _ split c.loop-columns.invariant.pass goes;
      left = fewer;
      stays = c.take_word.ensures.stays ∙ c.loop-columns.invariant.stays;
    }

pub overflow_sub-width-in-Unclosed : goal.overflow_sub-width-in-Unclosed
overflow_sub-width-in-Unclosed c =
    let body = c.args.self.now.body in
    let end = body.offset + length body.columns.now in
    let left : body.offset + length c.loop-columns.rest.now ≤ end = c.loop-columns.invariant.left in
    let one = c.in-Unclosed.ensures.first (end - length c.loop-columns.rest.now) in
    let start : c.start.result ≡ body.offset - length body.front.now =
    subst (λ (b : Body). c.start.result ≡ b.offset - length b.front.now)
    c.loop-columns.invariant.stays c.start.ensures in
    omega (arith, one.ends, one.after, start, left, c.requires.begins)

pub returns-in-Unclosed : goal.returns-in-Unclosed
returns-in-Unclosed c =
    let body = c.args.self.now.body in
    let end = body.offset + length body.columns.now in
    let rest = c.loop-columns.rest.now in
    let left : body.offset + length rest ≤ end = c.loop-columns.invariant.left in
    let one = c.in-Unclosed.ensures.first (end - length rest) in
    let stays = c.loop-columns.invariant.stays in
    let start : c.start.result ≡ body.offset - length body.front.now =
    subst (λ (b : Body). c.start.result ≡ b.offset - length b.front.now) stays c.start.ensures in
    let width = length-append body.front.now body.columns.now in
    rw c.objects.ensures
    (unclosed_objects body.card one.opening (stage_of c.loop-columns.self)
    (items_of (end - length rest) rest) _ one.items c.loop-columns.invariant.pass
    ∙ ap (λ (b : Body). Err (item_objects (body_seen b) (unclosed one.opening) Unclosed)) stays
    ∙ same_place body.card _ _ _ _ Unclosed
    (omega (arith, one.ends, one.after, start, left, c.requires.begins))
    (omega (arith, width, start, c.requires.begins)))

pub overflow_sub-column-in-Unopened : goal.overflow_sub-column-in-Unopened
overflow_sub-column-in-Unopened c =
    let body = c.args.self.now.body in
    let end = body.offset + length body.columns.now in
    let left : body.offset + length c.loop-columns.rest.now ≤ end = c.loop-columns.invariant.left in
    let one = c.in-Unopened.ensures.first (end - length c.loop-columns.rest.now) in
    let start : c.start-in-Unopened.result ≡ body.offset - length body.front.now =
    subst (λ (b : Body). c.start-in-Unopened.result ≡ b.offset - length b.front.now)
    c.loop-columns.invariant.stays c.start-in-Unopened.ensures in
    omega (arith, one.ends, one.after, start, left, c.requires.begins)

pub returns-in-Unopened : goal.returns-in-Unopened
returns-in-Unopened c =
    let body = c.args.self.now.body in
    let end = body.offset + length body.columns.now in
    let rest = c.loop-columns.rest.now in
    let left : body.offset + length rest ≤ end = c.loop-columns.invariant.left in
    let one = c.in-Unopened.ensures.first (end - length rest) in
    let stays = c.loop-columns.invariant.stays in
    let start : c.start-in-Unopened.result ≡ body.offset - length body.front.now =
    subst (λ (b : Body). c.start-in-Unopened.result ≡ b.offset - length b.front.now) stays
    c.start-in-Unopened.ensures in
    rw c.objects-in-Unopened.ensures
    (unopened_objects body.card one.closing (stage_of c.loop-columns.self)
    (items_of (end - length rest) rest) _ one.items c.loop-columns.invariant.pass
    ∙ ap (λ (b : Body). Err (item_objects (body_seen b) (unopened one.closing []) Unopened)) stays
    ∙ same_place body.card _ _ _ _ Unopened
    (omega (arith, one.ends, one.after, start, left, c.requires.begins))
    (omega (arith, one.ends, one.after, start, left, c.requires.begins)))
