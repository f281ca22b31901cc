-- What the reads before gave, and then this one.
use Rattle.std.proofs.Common.{arith, refl, inl, rules}
use Rattle.std.proofs.KnownBytes.{Consumes-nil}
use Rattle.std.proofs.lemmas.Result.{err_from_is_err_and}
use Rattle.l6_device.proofs.DeviceUses.{retries_then, retried_none, retried_unreported}
use Rattle.l6_device.proofs.Transfers.{Consumes_more, EndsReading_read_fault, GivesAtMost_after, GivesPart_at_end}
use Rattle.l6_device.proofs.transfer.read_part.Goals as goal

pub loop-reader-init : goal.loop-reader-init
loop-reader-init g c = record {
  given = rw c.new-bytes.ensures.items (Consumes-nil _);
  within = omega (arith, c.new-bytes.ensures.len);
  repeated = retried_none _ _;
  room = refl;
}

pub loop-reader-preserved : goal.loop-reader-preserved
loop-reader-preserved g c =
    let so_far = c.loop-reader.invariant in
    record {
      given = Consumes_more _ _ _ _ _ _ so_far.given c.in_ok-count.ensures.ok;
      within = c.in_ok-count.ensures.within;
      repeated = retried_unreported _ _ _ _
          (retries_then _ _ _ _ _ _ _ so_far.repeated c.in_ok-count.ensures.retries);
      room = so_far.room;
    }

pub returns-in_err-count-clause-bytes : goal.returns-in_err-count-clause-bytes
returns-in_err-count-clause-bytes g c =
    let p =
    err_from_is_err_and c.from_residual-in_err-count.result
    c.from_residual-in_err-count.ensures.1 in
    rw (p.1, p.2) (EndsReading_read_fault _ _ _ _ c.in_err-count.ensures.err)

pub returns-in_err-count-clause-at_most : goal.returns-in_err-count-clause-at_most
returns-in_err-count-clause-at_most g c =
    let so_far = c.loop-reader.invariant in
    GivesAtMost_after _ _ _ _ _ _ (omega (arith, c.loop-reader.bytes.ok.0, so_far.within))
    so_far.given c.in_err-count.ensures.at_most

pub returns-in_err-count-clause-retries : goal.returns-in_err-count-clause-retries
returns-in_err-count-clause-retries g c =
    let p =
    err_from_is_err_and c.from_residual-in_err-count.result
    c.from_residual-in_err-count.ensures.1 in
    rw (p.1, p.2)
    (retries_then _ _ _ _ _ _ _ c.loop-reader.invariant.repeated c.in_err-count.ensures.retries)

pub returns-then-count-eq0-clause-bytes : goal.returns-then-count-eq0-clause-bytes
returns-then-count-eq0-clause-bytes g c =
    GivesPart_at_end _ _ _ _ _ _ _ (omega (arith, c.loop-reader.bytes.ok.0))
    c.loop-reader.invariant.given c.in_ok-count.ensures.ok (search rules)

pub returns-then-count-eq0-clause-at_most : goal.returns-then-count-eq0-clause-at_most
returns-then-count-eq0-clause-at_most g c =
    let so_far = c.loop-reader.invariant in
    GivesAtMost_after _ _ _ _ _ _ (omega (arith, c.loop-reader.bytes.ok.0, so_far.within))
    so_far.given c.in_ok-count.ensures.at_most

pub returns-then-count-eq0-clause-retries : goal.returns-then-count-eq0-clause-retries
returns-then-count-eq0-clause-retries g c =
    retries_then _ _ _ _ _ _ _ c.loop-reader.invariant.repeated c.in_ok-count.ensures.retries

pub returns-clause-bytes : goal.returns-clause-bytes
returns-clause-bytes g c =
    let so_far = c.loop-reader.invariant in (
      refl,
      record {
        bytes = c.loop-reader.bytes.items;
        given = so_far.given;
        past = omega (arith, c.loop-reader.bytes.ok.0, so_far.within);
      },
    )

pub returns-clause-at_most : goal.returns-clause-at_most
returns-clause-at_most g c =
    let so_far = c.loop-reader.invariant in
    record {
      bytes = c.loop-reader.bytes.items;
      given = so_far.given;
      within = omega (arith, c.loop-reader.bytes.ok.0, so_far.within);
    }

pub returns-clause-retries : goal.returns-clause-retries
returns-clause-retries g c = inl c.loop-reader.invariant.repeated
