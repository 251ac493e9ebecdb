use Rattle.graph.proofs.Reach.{reach-agrees}
use Rattle.graph.proofs.theorems.reachability_stands.Goals as goal

pub returns : goal.returns
returns c = reach-agrees
