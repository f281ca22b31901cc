use Rattle.std.proofs.Common.{◌≡◌, [], ◌∷◌, Err, IfSome, subst}
use Rattle.std.proofs.lemmas.Result.{err_from_is_err_and}
use Rattle.l6_card.specs.declared.card.Body.{Body}
use Rattle.l6_card.specs.Card.{Card}
use Rattle.l6_card.specs.Objection.{objection_in}
use Rattle.l6_card.specs.Pieces.{ends, begins, label, items_on, pieces_of_card}
use Rattle.l6_card.specs.inner.Kinds.{body_seen}
use Rattle.l6_card.specs.inner.Pass.{after_pieces}
use Rattle.l6_card.specs.inner.Reader.{stage_of, Follows}
use Rattle.l6_card.proofs.Passes.{pieces_go, pieces_stop}
use Rattle.l6_card.proofs.reader.Reader.take_card.Goals as goal

pub returns-in_err-begin-in-Plain : goal.returns-in_err-begin-in-Plain
returns-in_err-begin-in-Plain c =
    let p = err_from_is_err_and c.from_residual.result c.from_residual.ensures.1 in
    let body = body_seen c.in-Plain.body in
    let found = objection_in c.in_err-begin-in-Plain.field-0.0 in
    let known = stage_of c.args.self.now in
    rw (p.1, p.2)
    (subst (λ (k : Card). IfSome found (λ o. after_pieces known (pieces_of_card k) ≡ Err o))
    c.in-Plain.ensures.kind
    (pieces_stop found (ends ∷ begins body ∷ []) (items_on body) known
    c.in_err-begin-in-Plain.ensures.taken))

pub returns-in_err-begin-in-Labelled : goal.returns-in_err-begin-in-Labelled
returns-in_err-begin-in-Labelled c =
    let p = err_from_is_err_and c.from_residual-in_err-begin-in-Labelled.result
    c.from_residual-in_err-begin-in-Labelled.ensures.1 in
    let body = body_seen c.in-Labelled.body in
    let found = objection_in c.in_err-begin-in-Labelled.field-0.0 in
    let known = stage_of c.args.self.now in
    rw (p.1, p.2)
    (subst (λ (k : Card). IfSome found (λ o. after_pieces known (pieces_of_card k) ≡ Err o))
    c.in-Labelled.ensures.kind
    (pieces_stop found (ends ∷ begins body ∷ []) (label body.card body.front ∷ items_on body) known
    c.in_err-begin-in-Labelled.ensures.taken))

pub returns-in_ok-begin-in-Labelled : goal.returns-in_ok-begin-in-Labelled
returns-in_ok-begin-in-Labelled c =
    let known = stage_of c.args.self.now in
    let next = stage_of c.begin-in-Labelled.new.self in
    let final = stage_of c.take_labelled.new.self in
    let body = body_seen c.in-Labelled.body in
    let pieces = λ (b : Body). label b.card b.front.now ∷ items_on (body_seen b) in
    subst (λ (k : Card). Follows c.take_labelled.result final (after_pieces known (pieces_of_card k)))
    c.in-Labelled.ensures.kind
    (pieces_go c.take_labelled.result (ends ∷ begins body ∷ [])
    (pieces c.in-Labelled.body) known next final c.in_ok-begin-in-Labelled.ensures.taken
    (subst (λ (b : Body). Follows c.take_labelled.result final (after_pieces next (pieces b)))
    c.in_ok-begin-in-Labelled.ensures.placed c.take_labelled.ensures))
