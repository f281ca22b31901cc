use Rattle.std.proofs.Common.{◌≡◌, ◌++◌, length}
use Rattle.l6_session.specs.Reports.{displayed_text}
use Rattle.l6_session.proofs.reports.push_displayed.Given as goal

-- the text so far, with the lines of the chains that are left, is that of all
abbrev pub invariant-loop-chain : goal.invariant-loop-chain
invariant-loop-chain g l =
    l.text.items ++ displayed_text l.machine.configuration.state.memory l.rest
    ≡ l.fn.text.items ++ displayed_text l.machine.configuration.state.memory l.fn.chains

abbrev pub decreases-loop-chain : goal.decreases-loop-chain
decreases-loop-chain g l = length l.rest
