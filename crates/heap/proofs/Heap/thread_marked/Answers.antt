use Rattle.std.proofs.Common.{refl}
use Rattle.heap.proofs.Stepping.{draw-draws}
use Rattle.heap.proofs.Heap.thread_marked.Goals as goal

pub returns : goal.returns
returns g c = record { draws = draw-draws _ _ _ c.draw.ensures.drawn c.draw.ensures.kept refl refl refl; scheme = refl }
