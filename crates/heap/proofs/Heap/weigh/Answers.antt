use Rattle.std.proofs.Common.{◌∙◌}
use Rattle.heap.proofs.Stepping.{tells-by, bounds_same}
use Rattle.heap.proofs.Heap.weigh.Goals as goal

pub returns : goal.returns
returns g c =
    let begins = c.mark-live.ensures in
    let gives = c.unmark.ensures in
    record {
      tells = tells-by g.S.Scheme.meaning _ _ _ _ _ _ begins.begins begins.scheme gives.rests;
      bounds = bounds_same (gives.rests.low ∙ begins.begins.low) (gives.rests.high ∙ begins.begins.high) (gives.rests.limit ∙ begins.begins.limit);
      scheme = gives.scheme ∙ begins.scheme;
    }
