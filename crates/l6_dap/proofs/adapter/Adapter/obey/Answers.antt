use Rattle.std.proofs.Common.{◌≡◌, None, Some, sym, ◌∙◌}
use Rattle.l6_dap.specs.inner.Asked.{arguments_of, call_by, move_by}
use Rattle.l6_dap.proofs.Leading.{moved_as}
use Rattle.l6_dap.proofs.adapter.Adapter.obey.Goals as goal

pub returns-in-Some-asked_move : goal.returns-in-Some-asked_move
returns-in-Some-asked_move g c =
    let request = c.args.request in
    let none : call_by request ≡ None = sym c.asked_call.ensures ∙ c.in_default.is in
    let asked : move_by request ≡ Some c.in-Some-asked_move.to = sym c.asked_move.ensures ∙ c.in-Some-asked_move.is in
    moved_as request.command.now (arguments_of request) c.in-Some-asked_move.to c.args.self.now c.make.new.self
    c.args.events.now c.make.new.events c.make.result none asked c.make.ensures
