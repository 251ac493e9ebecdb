use Rattle.graph.proofs.ReadBack.{numbers-kept, raw-words-kept, values-kept}
use Rattle.graph.proofs.theorems.stored_is_read_back.Goals as goal

pub returns : goal.returns
returns c = record { numbers = numbers-kept; raws = raw-words-kept; values = values-kept }
