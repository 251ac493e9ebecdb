use Rattle.std.proofs.Common.{arith}
use Rattle.std.proofs.lemmas.Bool.{eqb-true, not-false}
use Rattle.graph.specs.Step.{kind_of}
use Rattle.heap.proofs.Judging.{all_pass, pass-first, sifts-ok}
use Rattle.heap.proofs.Readings.{layout-count}
use Rattle.heap.proofs.Heap.record_size.Goals as goal

pub returns : goal.returns
returns g c =
    record {
      counted = omega (arith, c.word_in.ensures);
      size = λ gr s x st is.
          let p = c.in_ok-check_kind.ensures gr s x st is in
          let k = eqb-true (kind_of gr x) 3 (not-false _ (pass-first (all_pass p))) in
          let f = layout-count _ _ gr s st x c.args.word is k in
          sifts-ok (all_pass p) (omega (arith, f.0, f.1, c.word_in.ensures));
    }
