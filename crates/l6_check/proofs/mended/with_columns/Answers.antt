use Rattle.std.proofs.Common.{◌≡◌, ◌+◌, ◌-◌, ◌∙◌, ◌++◌, ◌∷◌, [], suc, List, ℕ, length, length-append, ap, arith, subst, sym}
use Rattle.std.specs.Str.{byte}
use Rattle.l6_word.specs.Lines.{lines_of}
use Rattle.l6_check.specs.Statements.{mended, mended_line}
use Rattle.l6_check.specs.inner.Parts.{lines_in}
use Rattle.l6_check.proofs.Mending.{mended_length, written_all, written_last, written_next, AreWritten}
use Rattle.l6_check.proofs.mended.with_columns.Goals as goal

pub returns-in-None-clause-lines : goal.returns-in-None-clause-lines
returns-in-None-clause-lines c =
    let left = c.loop-left.left in
    let one : left ≡ suc (left - 1) = omega (arith, c.loop-left-test.true) in
    let all = mended c.args.objection c.args.columns.now (c.args.part.before + 1) (lines_in c.args.part) in
    ap lines_of c.in_ok-push_line-in-None.ensures
    ∙ written_last c.args.objection c.args.columns.now c.loop-left.card left (left - 1) c.loop-left.rest.now
    c.loop-left.text.items all c.requires.line c.in-None.ensures.none one c.loop-left.invariant.written

pub loop-left-preserved : goal.loop-left-preserved
loop-left-preserved c =
    let left = c.loop-left.left in
    let line = c.in-Some.line.now in
    let new = mended_line c.args.objection c.args.columns.now (c.loop-left.card + 1) line in
    let one : left ≡ suc (left - 1) = omega (arith, c.loop-left-test.true) in
    let all = mended c.args.objection c.args.columns.now (c.args.part.before + 1) (lines_in c.args.part) in
    let text = c.in_ok-push-in-Some.ensures.items
    ∙ ap (λ t. t ++ byte "\n" ∷ []) c.in_ok-push_line-in-Some.ensures in
    let long = ap length text in
    record {
      written = subst (λ (t : List ℕ). AreWritten c.args.objection c.args.columns.now (c.loop-left.card + 1)
          (left - 1) c.in-Some.following.now t all) (sym text)
          (written_next c.args.objection c.args.columns.now c.loop-left.card left (left - 1)
          c.loop-left.rest.now line c.in-Some.following.now c.loop-left.text.items all c.requires.line
          c.in-Some.ensures.parts one c.loop-left.invariant.written);
      fewer = omega (
        arith,
        long,
        length-append (c.loop-left.text.items ++ new) (byte "\n" ∷ []),
        length-append c.loop-left.text.items new,
        mended_length c.args.objection c.args.columns.now (c.loop-left.card + 1) line,
        c.in-Some.ensures.lengths,
        c.loop-left.invariant.fewer,
      );
      numbers = omega (arith, c.loop-left-test.true, c.loop-left.invariant.numbers);
    }

pub returns-clause-lines : goal.returns-clause-lines
returns-clause-lines c =
    written_all c.args.objection c.args.columns.now c.loop-left.card c.loop-left.left c.loop-left.rest.now
    c.loop-left.text.items _ (omega (arith, c.loop-left-test.false)) c.loop-left.invariant.written
