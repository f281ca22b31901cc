use Rattle.std.proofs.Common.{sym, ◌∙◌, ℕ}
use Rattle.l6_device.proofs.DeviceUses.{retries_then, retried_unreported}
use Rattle.l6_debug.proofs.Going.{line_fault, line_gone}
use Rattle.l6_debug.proofs.obeying.obey_all.Goals as goal

-- a fault comes after the answers so far
pub returns-in-Err-clause-answers : goal.returns-in-Err-clause-answers
returns-in-Err-clause-answers g c =
    line_fault ℕ (Unit {0}) g.S.Places.rule c.args.debugger.now.context c.loop-line.debugger.context
    c.loop-line.debugger.debugger_state c.loop-line.rest.now c.in-Some.line.now c.in-Some.following.now
    c.reading_of-reading.result _ _ _ _ c.loop-line.sent c.in-Err.fault
    c.loop-line.invariant.context c.in-Some.ensures.lines c.reading_of-reading.ensures
    (sym c.is_quit.ensures ∙ c.if-is_quit.false) c.loop-line.invariant.gone
    c.in-Err.ensures.answers

-- the writer did what it did before, and then wrote this line
pub returns-in-Err-clause-retries : goal.returns-in-Err-clause-retries
returns-in-Err-clause-retries g c =
    retries_then _ _ _ _ _ _ _ c.loop-line.invariant.repeated c.in-Err.ensures.retries

-- and so do further answers
pub loop-line-preserved : goal.loop-line-preserved
loop-line-preserved g c = record {
  context = c.obey.ensures.context ∙ c.loop-line.invariant.context;
  gone = line_gone g.S.Places.rule c.args.debugger.now.context c.loop-line.debugger.context
      c.loop-line.debugger.debugger_state c.obey.new.debugger.debugger_state c.loop-line.rest.now
      c.in-Some.line.now c.in-Some.following.now c.reading_of-reading.result _ _ _ _
      c.loop-line.sent c.in-Ok.more c.loop-line.invariant.context c.in-Some.ensures.lines
      c.reading_of-reading.ensures (sym c.is_quit.ensures ∙ c.if-is_quit.false)
      c.obey.ensures.debugger_state c.loop-line.invariant.gone c.in-Ok.ensures.answers
      c.in-Ok.ensures.counted;
  repeated = retried_unreported _ _ _ _
      (retries_then _ _ _ _ _ _ _ c.loop-line.invariant.repeated c.in-Ok.ensures.retries);
}
