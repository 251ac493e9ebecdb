use Rattle.std.proofs.Common.{refl}
use Rattle.heap.proofs.Stepping.{give-up-gives-up}
use Rattle.heap.proofs.Heap.unmark.Goals as goal

pub returns : goal.returns
returns g c = record { rests = give-up-gives-up _ _ _ c.give_up.ensures refl refl refl; scheme = refl }
