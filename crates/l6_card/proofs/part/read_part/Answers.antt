use Rattle.std.proofs.Common.{◌≡◌, ◌+◌, ◌∙◌, Ok, List, ap, sym, subst, take}
use Rattle.std.proofs.lemmas.Result.{err_from_is_err_and}
use Rattle.l6_word.specs.Lines.{lines_of}
use Rattle.l6_card.specs.Statement.{DeckStatementParts}
use Rattle.l6_card.specs.Objection.{objection_in}
use Rattle.l6_card.specs.ReadAlone.{LinesReadAs}
use Rattle.l6_card.specs.inner.Pass.{after_pieces}
use Rattle.l6_card.specs.inner.Reader.{stage_of}
use Rattle.l6_card.proofs.PartPasses.{line_pieces, part_pass, objection_is_met, lines_read, lines_without_objection}
use Rattle.l6_card.proofs.part.read_part.Goals as goal
use Rattle.l6_card.proofs.part.read_part.Goals.{After-new}

pub returns-in_err-take_lines-clause-objection : goal.returns-in_err-take_lines-clause-objection
returns-in_err-take_lines-clause-objection c =
    let p = err_from_is_err_and c.from_residual.result c.from_residual.ensures.1 in
    let lines = take c.args.count (lines_of c.args.text.now) in
    rw (p.1, p.2)
    (objection_is_met (c.args.before + 1) lines (objection_in c.in_err-take_lines.field-0.0)
    (rw c.new-reader.ensures at c.in_err-take_lines.ensures))

-- the pass of the lines ended so
ended : (c : After-new) →
    part_pass (c.args.before + 1) (take c.args.count (lines_of c.args.text.now))
    ≡ Ok (stage_of c.take_lines.new.reader)
ended c =
    let lines = take c.args.count (lines_of c.args.text.now) in
    sym (ap (λ known. after_pieces known (line_pieces (c.args.before + 1) 0 lines))
    c.new-reader.ensures) ∙ c.in_ok-take_lines.ensures

pub returns-clause-reads : goal.returns-clause-reads
returns-clause-reads c =
    let lines = take c.args.count (lines_of c.args.text.now) in
    subst (λ (s : List DeckStatementParts). LinesReadAs (c.args.before + 1) lines s)
    (sym (c.new.ensures ∙ c.into_statements.ensures))
    (lines_read (c.args.before + 1) lines (stage_of c.take_lines.new.reader) (ended c))

pub returns-clause-objection : goal.returns-clause-objection
returns-clause-objection c =
    lines_without_objection (c.args.before + 1) (take c.args.count (lines_of c.args.text.now))
    (stage_of c.take_lines.new.reader) (ended c)
