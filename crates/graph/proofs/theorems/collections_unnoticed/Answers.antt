use Rattle.graph.proofs.Runs.{others-agree}
use Rattle.graph.proofs.theorems.collections_unnoticed.Goals as goal

pub returns : goal.returns
returns c = others-agree
