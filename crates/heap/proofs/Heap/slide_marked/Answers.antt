use Rattle.std.proofs.Common.{refl}
use Rattle.heap.proofs.Collected.{closes-collected}
use Rattle.heap.proofs.Stepping.{close-closes}
use Rattle.heap.proofs.Heap.slide_marked.Goals as goal

pub returns : goal.returns
returns g c =
    let closes = close-closes _ _ _ c.close-self.ensures.closed c.close-self.ensures.kept c.close-self.ensures.limit in
    record { closes = closes; collected = closes-collected _ _ _ closes; scheme = refl }
