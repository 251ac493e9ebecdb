use Rattle.graph.proofs.Stays.{stays-sound}
use Rattle.graph.proofs.theorems.soundness_stands.Goals as goal

pub returns : goal.returns
returns c = stays-sound
