use Rattle.graph.proofs.Nearest.{fill-is-nearest}
use Rattle.graph.proofs.theorems.fill_is_nearest.Goals as goal

pub returns : goal.returns
returns c = fill-is-nearest
