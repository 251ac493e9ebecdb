use Rattle.graph.proofs.Sliding.{kept-slide, reachable-slide}
use Rattle.graph.proofs.theorems.sliding_stands.Goals as goal

pub returns : goal.returns
returns c = record { any = kept-slide; reachable = reachable-slide }
