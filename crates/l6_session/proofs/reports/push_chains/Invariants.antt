use Rattle.std.proofs.Common.{◌≡◌, ◌+◌, ◌++◌, length}
use Rattle.std.specs.List.{enumerate_from, flat_map}
use Rattle.l6_session.specs.Reports.{chain_lines}
use Rattle.l6_session.specs.Texts.{numbered_line}
use Rattle.l6_session.proofs.reports.push_chains.Given as goal

-- the text so far, with the lines of the chains that are left, is that of all
abbrev pub invariant-loop-chain : goal.invariant-loop-chain
invariant-loop-chain g l = record {
  text : l.text.items
      ++ flat_map
      (λ chain. numbered_line l.machine.configuration.state.memory l.verb chain.0 chain.1)
      (enumerate_from l.number l.rest)
      ≡ l.fn.text.items ++ chain_lines l.machine.configuration.state.memory l.verb l.fn.chains;
  numbers : l.number + length l.rest ≡ length l.fn.chains + 1;
}

abbrev pub decreases-loop-chain : goal.decreases-loop-chain
decreases-loop-chain g l = length l.rest
