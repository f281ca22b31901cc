use Rattle.std.proofs.Common.{ℕ, ◌+◌, List, length, get_or, set, slice_range, ap, ◌∙◌, arith}
use Rattle.l6_raw.proofs.Overwriting.{copied_more, length_overwritten, length_range}
use Rattle.l6_raw.proofs.region.Region.copy.Goals as goal

pub loop-done-preserved : goal.loop-done-preserved
loop-done-preserved c =
    let from = c.args.from in
    let to = c.args.to in
    let done = c.loop-done.done in
    c.write.ensures
    ∙ ap (set c.loop-done.self (to + done)) c.read-word.ensures.value
    ∙ ap (λ (now : List ℕ). set now (to + done) (get_or now (from + done) 0)) c.loop-done.invariant
    ∙ copied_more c.args.self.now from to c.args.count done c.requires.source
    c.requires.target c.requires.apart c.loop-done-test.true

pub read-word-requires : goal.read-word-requires
read-word-requires c =
    let words = c.args.self.now in
    let size = length_range words c.args.from c.loop-done.done
    (omega (arith, c.requires.source, c.loop-done-test.true)) in
    let long = length_overwritten words c.args.to
    (slice_range words c.args.from (c.args.from + c.loop-done.done))
    (omega (arith, size, c.requires.target, c.loop-done-test.true)) in
    omega (
      arith,
      long,
      ap (λ (list : List ℕ). length list) c.loop-done.invariant,
      c.requires.source,
      c.loop-done-test.true,
    )

pub write-requires-clause-index : goal.write-requires-clause-index
write-requires-clause-index c =
    let words = c.args.self.now in
    let size = length_range words c.args.from c.loop-done.done
    (omega (arith, c.requires.source, c.loop-done-test.true)) in
    let long = length_overwritten words c.args.to
    (slice_range words c.args.from (c.args.from + c.loop-done.done))
    (omega (arith, size, c.requires.target, c.loop-done-test.true)) in
    omega (
      arith,
      long,
      ap (λ (list : List ℕ). length list) c.loop-done.invariant,
      c.requires.target,
      c.loop-done-test.true,
    )
