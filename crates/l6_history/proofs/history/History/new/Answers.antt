use Rattle.l6_history.proofs.history.History.new.Goals as goal

-- an empty ring may be beside any numbered machine
pub invariant_of-result : goal.invariant_of-result
invariant_of-result g c = c.new-2.ensures.room c.new.result.context
