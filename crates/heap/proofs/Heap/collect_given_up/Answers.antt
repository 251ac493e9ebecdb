use Rattle.std.proofs.Common.{pos, refl, ◌∙◌}
use Rattle.graph.specs.declared.Call.TheVariants.{GivenUp}
use Rattle.heap.proofs.Stepping.{tells-by, tells-follow}
use Rattle.heap.proofs.Heap.collect_given_up.Goals as goal

pub returns : goal.returns
returns g c =
    let begins = c.begin.ensures in
    let gives = c.give_up.ensures in
    let told = tells-by g.S.Scheme.meaning _ _ _ _ _ _ begins.begins begins.scheme gives.rests in
    record {
      follows = tells-follow _ GivenUp _ _ _ (pos 0) (λ gr s st. refl) told;
      alters = (gives.rests.low ∙ begins.begins.low, gives.rests.high ∙ begins.begins.high, told.limit);
      scheme = gives.scheme ∙ begins.scheme;
    }
