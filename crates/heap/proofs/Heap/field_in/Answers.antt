use Rattle.std.proofs.Common.{◌≡◌, ◌+◌, ◌/◌}
use Rattle.std.proofs.lemmas.Bool.{eqb-true, not-false}
use Rattle.graph.specs.Step.{kind_of}
use Rattle.heap.proofs.Judging.{all_pass, pass-first, stop, sifts-exit, sifts-then, err-made}
use Rattle.heap.proofs.Heap.field_in.Goals as goal

pub returns-in_err-check_kind : goal.returns-in_err-check_kind
returns-in_err-check_kind g c =
    record {
      place = err-made (λ p. p ≡ c.args.word / 4 + (2 + c.args.field)) c.from_residual.result c.in_err-check_kind.field-0.0 c.from_residual.ensures.1;
      sifts = λ gr s x st is. sifts-exit c.from_residual.result c.from_residual.ensures.1 (stop _ (c.in_err-check_kind.ensures gr s x st is));
    }

pub returns : goal.returns
returns g c =
    record {
      place = c.field_of.ensures.place;
      sifts = λ gr s x st is.
          let p = c.in_ok-check_kind.ensures gr s x st is in
          let k = eqb-true (kind_of gr x) 2 (not-false _ (pass-first (all_pass p))) in
          sifts-then p (c.field_of.ensures.sifts gr s x st is k);
    }
