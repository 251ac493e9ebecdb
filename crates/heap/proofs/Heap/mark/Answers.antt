use Rattle.std.proofs.Common.{refl}
use Rattle.heap.proofs.Stepping.{begin-begins}
use Rattle.heap.proofs.Heap.mark.Goals as goal

pub returns : goal.returns
returns g c = record { begins = begin-begins _ _ _ _ c.begin.ensures refl refl refl; scheme = refl }
