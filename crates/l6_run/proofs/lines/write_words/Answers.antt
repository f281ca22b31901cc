use Rattle.std.proofs.Common.{◌≡◌, ℕ, ◌+◌, List, ◌++◌, length, arith, ap, subst, sym, ◌∙◌, rules}
use Rattle.std.specs.Prelude.{min}
use Rattle.std.specs.List.{list_all}
use Rattle.std.specs.Io.KnownBytes.{Appends}
use Rattle.std.proofs.lemmas.Bool.{and_parts}
use Rattle.std.proofs.lemmas.List.Concat.{flat_map-append}
use Rattle.std.proofs.lemmas.List.Folds.{list_all-append}
use Rattle.std.proofs.lemmas.Result.{err_from_is_err_and}
use Rattle.l6_word.specs.Word.{is_word}
use Rattle.l6_image.specs.Text.{text_of_words, word_line}
use Rattle.l6_device.specs.Numerals.{most_counted}
use Rattle.l6_device.specs.Transfer.{EndsWriting}
use Rattle.l6_device.proofs.DeviceUses.{retries_then, retried_unreported}
use Rattle.l6_run.proofs.WordLines.{written_front, written_on}
use Rattle.l6_run.proofs.lines.write_words.Goals as goal

-- what went out of these lines is after those before
pub returns-in_err-write_text-clause-err : goal.returns-in_err-write_text-clause-err
returns-in_err-write_text-clause-err g c =
    let p = err_from_is_err_and c.from_residual.result c.from_residual.ensures.1 in
    let rest = c.loop-rest.rest.now in
    let first = c.split_at.result.0.now in
    let later = c.split_at.result.1.now in
    let are : text_of_words rest ≡ text_of_words first ++ text_of_words later =
    ap text_of_words (search rules) ∙ flat_map-append word_line first later in
    let lines : c.as_slice.result.now ≡ text_of_words first = search rules in
    let ends = subst (λ (text : List ℕ). EndsWriting text c.loop-rest.before
    (g.W.Sink.taken c.loop-rest.writer) (g.W.Sink.taken c.write_text.new.writer)
    c.in_err-write_text.field-0.0) lines c.in_err-write_text.ensures.err in
    rw (p.1, p.2)
    (written_front (text_of_words c.args.words.now) (text_of_words rest) (text_of_words first)
    (text_of_words later) c.loop-rest.before _ _ _
    c.loop-rest.invariant.written are c.in_err-write_text.field-0.0 ends)

pub loop-rest-preserved : goal.loop-rest-preserved
loop-rest-preserved g c =
    let rest = c.loop-rest.rest.now in
    let first = c.split_at.result.0.now in
    let later = c.split_at.result.1.now in
    let are : rest ≡ first ++ later = search rules in
    let lines : c.as_slice.result.now ≡ text_of_words first = search rules in
    let count : c.len.result ≡ length c.as_slice.result.now = search rules in
    let out = subst (λ (text : List ℕ). Appends (g.W.Sink.taken c.loop-rest.writer)
    (g.W.Sink.taken c.write_text.new.writer) text) lines c.in_ok-write_text.ensures.ok in
    record {
      known = (and_parts (list_all is_word first) (list_all is_word later)
          (sym (list_all-append is_word first later)
          ∙ ap (list_all is_word) (sym are)
          ∙ c.loop-rest.invariant.known)).1;
      room = omega (arith, c.push_lines.ensures.capacity, c.clear.ensures.capacity, c.loop-rest.invariant.room);
      written = written_on (text_of_words c.args.words.now) (text_of_words rest)
          (text_of_words first) (text_of_words later) c.loop-rest.before _ _ _
          c.loop-rest.invariant.written
          (ap text_of_words are ∙ flat_map-append word_line first later)
          c.saturating_add-before.result out
          (c.saturating_add-before.ensures
          ∙ ap (λ n. min (c.loop-rest.before + n) most_counted) (count ∙ ap length lines));
      retried = retried_unreported _ _ _ _
          (retries_then _ _ _ _ _ _ _ c.loop-rest.invariant.retried c.in_ok-write_text.ensures.retries);
    }
