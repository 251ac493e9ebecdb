use Rattle.std.proofs.Common.{refl, ◌∙◌}
use Rattle.graph.specs.declared.Call.TheVariants.{Stepped}
use Rattle.heap.proofs.Collected.{steps-collected}
use Rattle.heap.proofs.Stepping.{packs-by, packs-told, packs-follow}
use Rattle.heap.proofs.Heap.collect_by_steps.Goals as goal

pub returns : goal.returns
returns g c =
    let begins = c.begin.ensures in
    let draws = c.draw.ensures in
    let closes = c.close.ensures in
    let packs = packs-by g.S.Scheme.meaning _ _ _ _ _ _ _ c.begin.result.live begins.begins begins.scheme draws.draws draws.scheme closes.closes in
    record {
      meets = record {
        follows = packs-follow _ Stepped _ _ _ (λ W gr. refl) (packs-told (closes.live ∙ draws.live) packs);
        alters = packs.limit;
        scheme = closes.scheme ∙ draws.scheme ∙ begins.scheme;
      };
      collected =
          steps-collected g.S.Scheme.meaning _ _ _ _ _ _ _ c.begin.result.live begins.begins begins.scheme draws.draws draws.scheme closes.collected;
    }
