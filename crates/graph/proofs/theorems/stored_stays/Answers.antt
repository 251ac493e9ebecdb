use Rattle.graph.proofs.Kept.{stored-stays}
use Rattle.graph.proofs.theorems.stored_stays.Goals as goal

pub returns : goal.returns
returns c = stored-stays
