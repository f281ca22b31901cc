use Rattle.std.proofs.Common.{◌≡◌, ℕ, ◌+◌, List, ◌++◌, length, Bool, not, true, false, refl, arith, ap, subst, ◌∙◌, rules}
use Rattle.std.specs.Prelude.{min}
use Rattle.std.specs.Io.KnownBytes.{Appends}
use Rattle.std.proofs.lemmas.Result.{err_from_is_err_and}
use Rattle.l6_device.specs.Numerals.{most_counted}
use Rattle.l6_device.specs.Transfer.{EndsWriting}
use Rattle.l6_device.proofs.DeviceUses.{retries_then, retried_unreported}
use Rattle.l6_run.proofs.WordLines.{written_front, written_on}
use Rattle.l6_run.proofs.lines.write_card_lines.Goals as goal

-- what went out of these lines is after those before
pub returns-in_err-write_text-clause-err : goal.returns-in_err-write_text-clause-err
returns-in_err-write_text-clause-err g c =
    let p = err_from_is_err_and c.from_residual.result c.from_residual.ensures.1 in
    let first = c.fill-is_over.new.text.items in
    let are : c.loop-is_over.cards ≡ first ++ c.fill-is_over.new.self = search rules in
    let lines : c.as_slice.result.now ≡ first = search rules in
    let ends = subst (λ (text : List ℕ). EndsWriting text c.loop-is_over.sent
    (g.W.Sink.taken c.loop-is_over.writer) (g.W.Sink.taken c.write_text.new.writer)
    c.in_err-write_text.field-0.0) lines c.in_err-write_text.ensures.err in
    rw (p.1, p.2)
    (written_front c.args.cards c.loop-is_over.cards first c.fill-is_over.new.self
    c.loop-is_over.sent _ _ _ c.loop-is_over.invariant.written are c.in_err-write_text.field-0.0 ends)

pub loop-is_over-preserved : goal.loop-is_over-preserved
loop-is_over-preserved g c =
    let first = c.fill-is_over.new.text.items in
    let are : c.loop-is_over.cards ≡ first ++ c.fill-is_over.new.self = search rules in
    let lines : c.as_slice.result.now ≡ first = search rules in
    let count : c.len.result ≡ length first = search rules in
    let out = subst (λ (text : List ℕ). Appends (g.W.Sink.taken c.loop-is_over.writer)
    (g.W.Sink.taken c.write_text.new.writer) text) lines c.in_ok-write_text.ensures.ok in
    record {
      room = omega (
        arith,
        c.fill-is_over.ensures.capacity,
        c.clear.ensures.capacity,
        c.loop-is_over.invariant.room,
      );
      written = written_on c.args.cards c.loop-is_over.cards first c.fill-is_over.new.self
          c.loop-is_over.sent _ _ _ c.loop-is_over.invariant.written are
          c.saturating_add-sent.result out
          (c.saturating_add-sent.ensures
          ∙ ap (λ n. min (c.loop-is_over.sent + n) most_counted) count);
      ended = λ over. c.fill-is_over.ensures.over (unended c.fill-is_over.result over);
      retried = retried_unreported _ _ _ _
          (retries_then _ _ _ _ _ _ _ c.loop-is_over.invariant.retried
          c.in_ok-write_text.ensures.retries);
    }
  where
    unended : (more : Bool) → not more ≡ true → more ≡ false
    unended true over = absurd (cc over)
    unended false over = refl
