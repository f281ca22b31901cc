use Rattle.std.proofs.Common.{arith, ◌+◌, ◌∙◌, ◌≡◌, Ok, sym, ap, subst, List}
use Rattle.std.proofs.lemmas.Result.{err_from_is_err_and}
use Rattle.l6_card.specs.Statement.{DeckStatementParts}
use Rattle.l6_card.specs.Objection.{objection_in}
use Rattle.l6_card.specs.inner.Pass.{after_pieces, pass_of}
use Rattle.l6_card.specs.ReadsAs.{ReadsAs}
use Rattle.l6_card.specs.Laws.{AreWithinLimits, IsOnlyReading}
use Rattle.l6_card.specs.inner.Reader.{stage_of}
use Rattle.l6_card.proofs.Settling.{reads_when_taken, only_reading_taken, within_limits, no_fault_taken}
use Rattle.l6_card.proofs.Passes.{FirstCard, text_pieces, bytes_in, bytes_in_lines, refused, refused_at_end, pass_goes, pass_over}
use Rattle.l6_card.proofs.deck.read_deck.Goals as goal
use Rattle.l6_card.proofs.deck.read_deck.Goals.{After-new}

pub returns-in_err-take_card-clause-fault : goal.returns-in_err-take_card-clause-fault
returns-in_err-take_card-clause-fault c =
    let p = err_from_is_err_and c.from_residual.result c.from_residual.ensures.1 in
    let first : FirstCard c.loop-line.rest.now c.columns_of.result.now c.in-Some.following.now =
    record {
      line = c.in-Some.line.now;
      lines = c.in-Some.ensures.lines;
      same = c.columns_of.ensures.value;
    } in
    rw (p.1, p.2)
    (refused c.args.deck.now c.loop-line.rest.now c.columns_of.result.now c.in-Some.following.now
    (c.loop-line.card + 1) c.loop-line.offset (stage_of c.loop-line.reader)
    (objection_in c.in_err-take_card.field-0.0)
    first c.loop-line.invariant.pass c.in_err-take_card.ensures)

pub returns-in_err-end-clause-fault : goal.returns-in_err-end-clause-fault
returns-in_err-end-clause-fault c =
    let p = err_from_is_err_and c.from_residual-in_err-end.result
    c.from_residual-in_err-end.ensures.1 in
    rw (p.1, p.2) (refused_at_end c.args.deck.now c.loop-line.rest.now (c.loop-line.card + 1)
    c.loop-line.offset (stage_of c.loop-line.reader) (objection_in c.in_err-end.field-0.0)
    c.in_default.ensures.lines c.loop-line.invariant.pass c.in_err-end.ensures)

pub loop-line-init : goal.loop-line-init
loop-line-init c = record {
  pass = ap (λ known. after_pieces known (text_pieces 1 0 c.args.deck.now)) c.new-reader.ensures;
  numbers = omega (arith, c.requires);
  offsets = omega (arith, c.requires, bytes_in_lines c.args.deck.now);
}

pub loop-line-preserved : goal.loop-line-preserved
loop-line-preserved c =
    let first : FirstCard c.loop-line.rest.now c.columns_of.result.now c.in-Some.following.now =
    record {
      line = c.in-Some.line.now;
      lines = c.in-Some.ensures.lines;
      same = c.columns_of.ensures.value;
    } in
    let fewer = ap bytes_in c.in-Some.ensures.lines in
    record {
      pass = ap (λ o. after_pieces (stage_of c.take_card.new.self)
          (text_pieces (c.loop-line.card + 1 + 1) o c.in-Some.following.now)) (omega arith)
          ∙ pass_goes c.loop-line.rest.now c.columns_of.result.now c.in-Some.following.now
          (c.loop-line.card + 1) c.loop-line.offset
          (stage_of c.loop-line.reader) (stage_of c.take_card.new.self) (pass_of c.args.deck.now)
          first c.loop-line.invariant.pass c.in_ok-take_card.ensures;
      numbers = let shorter = c.in-Some.ensures.shorter in omega arith;
      offsets = omega (arith, fewer, c.loop-line.invariant.offsets);
    }

-- the pass of the deck ended so
ended : (c : After-new) → pass_of c.args.deck.now ≡ Ok (stage_of c.end.new.self)
ended c = pass_over c.loop-line.rest.now (c.loop-line.card + 1) c.loop-line.offset
    (stage_of c.loop-line.reader)
    (stage_of c.end.new.self) (pass_of c.args.deck.now)
    c.in_default.ensures.lines c.loop-line.invariant.pass c.in_ok-end.ensures

-- the cards are the statements that are over then
same : (c : After-new) → c.end.new.self.statements.items ≡ c.new.result
same c = sym (c.new.ensures ∙ c.into_statements.ensures)

pub returns-clause-reads : goal.returns-clause-reads
returns-clause-reads c = subst (λ (s : List DeckStatementParts). ReadsAs c.args.deck.now s) (same c)
    (reads_when_taken c.args.deck.now (stage_of c.end.new.self) (ended c))

pub returns-clause-only : goal.returns-clause-only
returns-clause-only c =
    subst (λ (s : List DeckStatementParts). IsOnlyReading c.args.deck.now s) (same c)
    (only_reading_taken c.args.deck.now (stage_of c.end.new.self) (ended c))

pub returns-clause-limits : goal.returns-clause-limits
returns-clause-limits c = subst (λ (s : List DeckStatementParts). AreWithinLimits s) (same c)
    (within_limits c.args.deck.now c.end.new.self.statements.items
    (reads_when_taken c.args.deck.now (stage_of c.end.new.self) (ended c)))

pub returns-clause-sound : goal.returns-clause-sound
returns-clause-sound c = no_fault_taken c.args.deck.now (stage_of c.end.new.self) (ended c)
