-- What this write takes is after what was taken before, and it was no trouble.
use Rattle.std.proofs.Common.{◌≡◌, ℕ, ◌-◌, List, length, take, drop, arith, length-drop, length-take}
use Rattle.l6_device.proofs.DeviceUses.{retries_then, retried_unreported}
use Rattle.l6_device.proofs.Transfers.{Appends_rest}
use Rattle.l6_device.proofs.transfer.write_text.Goals as goal

-- what is left of a text after its first n bytes
abbrev rest_of : List ℕ → ℕ → List ℕ
rest_of text n = take (length text - n) (drop n text)

length_rest_of : (text : List ℕ) (n : ℕ) → length (rest_of text n) ≡ length text - n
length_rest_of text n =
    omega (arith, length-take (length text - n) (drop n text), length-drop n text)

pub loop-count-preserved : goal.loop-count-preserved
loop-count-preserved g c =
    let so_far = c.loop-count.invariant in
    let write = c.in-Ok.ensures in
    record {
      within = omega (arith, write.bound, length_rest_of c.args.text.now c.loop-count.count);
      front = Appends_rest _ _ _ _ _ _ so_far.front write.bytes;
      repeated = retried_unreported _ _ _ _
          (retries_then _ _ _ _ _ _ _ so_far.repeated write.retries);
      unasked = λ none. absurd (omega (arith, none));
    }

pub returns-in-Err-clause-retries : goal.returns-in-Err-clause-retries
returns-in-Err-clause-retries g c =
    rw (c.write_fault.ensures)
    (retries_then _ _ _ _ _ _ _ c.loop-count.invariant.repeated c.in-Err.ensures.retries)
