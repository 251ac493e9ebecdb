use Rattle.std.proofs.Common.{◌∙◌}
use Rattle.heap.proofs.Collected.{packs-collected}
use Rattle.heap.proofs.Stepping.{packs-by}
use Rattle.heap.proofs.Heap.pack.Goals as goal

pub returns : goal.returns
returns g c =
    let begins = c.mark-live.ensures in
    let draws = c.thread_marked.ensures in
    let closes = c.slide_marked.ensures in
    let packs = packs-by g.S.Scheme.meaning _ _ _ _ _ _ _ _ begins.begins begins.scheme draws.draws draws.scheme closes.closes in
    record { packs = packs; collected = packs-collected _ _ _ _ packs; scheme = closes.scheme ∙ draws.scheme ∙ begins.scheme }
