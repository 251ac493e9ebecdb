use Rattle.model.specs.Walks.{work}
use Rattle.model.proofs.reach.reachable.Given as goal

-- each turn follows one pending object
abbrev pub decreases-loop-next : goal.decreases-loop-next
decreases-loop-next l = work l.walk
