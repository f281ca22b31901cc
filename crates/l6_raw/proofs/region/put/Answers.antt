use Rattle.std.proofs.Common.{◌≡◌, ℕ, ◌+◌, List, length, get_or, set, take, ap, sym, ◌∙◌, arith}
use Rattle.std.proofs.lemmas.List.{take_more, length-take-le}
use Rattle.l6_raw.specs.Words.{overwritten}
use Rattle.l6_raw.proofs.Overwriting.{length_overwritten, overwritten_more}
use Rattle.l6_raw.proofs.region.put.Goals as goal

pub write-requires : goal.write-requires
write-requires c =
    let words = c.args.memory.now.words in
    let some : List ℕ = take c.loop-done.done c.args.words.now in
    let size = length-take-le c.loop-done.done c.args.words.now
    (omega (arith, c.loop-done-test.true)) in
    let long = length_overwritten words c.args.index some
    (omega (arith, size, c.requires, c.loop-done-test.true)) in
    omega (
      arith,
      long,
      ap (λ (list : List ℕ). length list) c.loop-done.invariant.words,
      c.requires,
      c.loop-done-test.true,
    )

pub loop-done-preserved : goal.loop-done-preserved
loop-done-preserved c =
    let words = c.args.memory.now.words in
    let index = c.args.index in
    let done = c.loop-done.done in
    let some : List ℕ = take done c.args.words.now in
    let word = get_or c.args.words.now done 0 in
    let size = length-take-le done c.args.words.now (omega (arith, c.loop-done-test.true)) in
    let place : index + done ≡ index + length some = omega (arith, size) in
    let so_far = c.loop-done.invariant in
    record {
      words = c.write.ensures.0
          ∙ ap (λ (now : List ℕ). set now (index + done) word) so_far.words
          ∙ ap (λ (i : ℕ). set (overwritten words index some) i word) place
          ∙ overwritten_more words index some word
          (omega (arith, size, c.requires, c.loop-done-test.true))
          ∙ ap (overwritten words index)
          (sym (take_more c.args.words.now done 0 (omega (arith, c.loop-done-test.true))));
      room = c.write.ensures.1 ∙ so_far.room;
      start = c.write.ensures.2 ∙ so_far.start;
    }
