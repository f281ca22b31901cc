use Rattle.std.proofs.Common.{rules}
use Rattle.l6_debug.proofs.Sessions.{session_served}
use Rattle.l6_debug.proofs.debugging.debug_deck.Goals as goal

-- the deck spells a program, and the debugger's answers went out
pub returns-clause-done : goal.returns-clause-done
returns-clause-done g c =
    session_served c.args.options c.args.deck.now c.args.input.now c.args.commands.now
    c.in_ok-assemble.field-0 (g.W.Sink.taken c.args.writer.now)
    (g.W.Sink.taken c.debug_run.new.writer) (search rules) (search rules) (search rules)
    (search rules) c.debug_run.result (search rules)
