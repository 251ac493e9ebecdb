use Rattle.std.proofs.Common.{◌<◌, length, get_or, ap, ◌∙◌, arith}
use Rattle.std.proofs.lemmas.List.{length-set}
use Rattle.memory.proofs.Ranges.{clear-more}
use Rattle.memory.proofs.Memory.clear.Goals as goal

pub loop-place-preserved : goal.loop-place-preserved
loop-place-preserved g c =
    let i = c.loop-place.invariant in
    let within : c.loop-place.place < length (g.Self.Memory.words c.loop-place.self) =
    omega (arith, i.kept, c.min-place-end.ensures, c.length.ensures, c.loop-place-test.true) in
    record {
      kept = ap length c.write.ensures ∙ length-set _ _ _ ∙ i.kept;
      none = λ h. absurd (omega (arith, h, c.loop-place-test.true, c.loop-place.auto.place));
      words = λ k. ap (λ l. get_or l k 0) c.write.ensures ∙ clear-more _ _ c.args.from c.loop-place.place c.loop-place.auto.place within i.words k;
    }
