use Rattle.graph.proofs.Altered.{calls-alter}
use Rattle.graph.proofs.theorems.alterations_stand.Goals as goal

pub returns : goal.returns
returns c = calls-alter
