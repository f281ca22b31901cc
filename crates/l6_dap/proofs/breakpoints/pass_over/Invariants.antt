use Rattle.std.proofs.Common.{◌≡◌, map, take}
use Rattle.serde_json.specs.View.{view}
use Rattle.l6_dap.specs.Breakpoints.{unverified, why_text}
use Rattle.l6_dap.specs.declared.breakpoints.Unset.TheVariants.{OtherDeck}
use Rattle.l6_dap.proofs.breakpoints.pass_over.Given as goal

abbrev pub invariant-loop-entry : goal.invariant-loop-entry
invariant-loop-entry l =
    map view l.said.items ≡ map (λ entry. unverified (why_text OtherDeck)) (map view (take l.entry-index l.entries))
