use Rattle.std.proofs.Common.{◌≡◌, false, [], ◌∷◌, length}
use Rattle.l6_word.specs.Lines.{lines_of}
use Rattle.l6_device.specs.Patience.{Retries, device_use}
use Rattle.l6_debug.specs.Transcript.{answers_from}
use Rattle.l6_debug.specs.inner.DebuggerRun.{HaveGoneOut}
use Rattle.l6_debug.proofs.obeying.obey_all.Given as goal

-- the answers to the lines so far went out, and the writer was interrupted as often as was repeated
abbrev pub invariant-loop-line : goal.invariant-loop-line
invariant-loop-line g l = record {
  context : l.debugger.context ≡ l.fn.debugger.context;
  gone : HaveGoneOut
      (answers_from g.S.Places.rule l.fn.debugger.context l.fn.debugger.debugger_state
      (lines_of l.fn.commands))
      (answers_from g.S.Places.rule l.fn.debugger.context l.debugger.debugger_state (lines_of l.rest))
      (g.W.Sink.taken l.fn.writer) (g.W.Sink.taken l.writer) l.sent;
  repeated : Retries (device_use (g.W.Sink.health l.fn.writer) (g.W.Sink.health l.writer) false ∷ [])
      l.fn.patience l.patience;
}

abbrev pub decreases-loop-line : goal.decreases-loop-line
decreases-loop-line g l = length l.rest
