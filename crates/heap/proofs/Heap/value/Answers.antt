use Rattle.std.proofs.Common.{sym, refl, ap, ◌∙◌, w32, SFits, rules}
use Rattle.std.proofs.lemmas.Int.{to_z-of_z}
use Rattle.std.proofs.lemmas.Bool.{eqb-true, not-false}
use Rattle.graph.specs.declared.Call.TheVariants.{Value as ValueOf}
use Rattle.graph.specs.Graph.{held}
use Rattle.graph.specs.Step.{tells, kind_of}
use Rattle.heap.proofs.Judging.{passed, all_pass, pass-first, next, stop}
use Rattle.heap.proofs.Acts.{tells-done}
use Rattle.heap.proofs.Readings.{held-means, number_read}
use Rattle.heap.proofs.Exits.{exits, ends}
use Rattle.heap.proofs.Heap.value.Goals as goal

pub returns-in_err-check_handle : goal.returns-in_err-check_handle
returns-in_err-check_handle g c =
    exits _ _ (ValueOf c.args.handle) _ (λ n. n) c.from_residual.result c.from_residual.ensures.1 λ gr s st.
    stop _ c.in_err-check_handle.ensures

pub returns-in_err-check_kind : goal.returns-in_err-check_kind
returns-in_err-check_kind g c =
    exits _ _ (ValueOf c.args.handle) _ (λ n. n) c.from_residual-in_err-check_kind.result c.from_residual-in_err-check_kind.ensures.1 λ gr s st.
    next c.in_ok-check_handle.ensures (stop _ (c.in_err-check_kind.ensures gr s (held gr c.args.handle) st (held-means _ _ gr s st c.args.handle c.in_ok-check_handle.ensures.gives)))

pub returns : goal.returns
returns g c =
    ends _ _ (ValueOf c.args.handle) _ _ _ refl refl refl λ gr s st.
    let p = c.in_ok-check_kind.ensures gr s (held gr c.args.handle) st (held-means _ _ gr s st c.args.handle c.in_ok-check_handle.ensures.gives) in
    let k = eqb-true (kind_of gr (held gr c.args.handle)) 1 (not-false _ (pass-first (all_pass p))) in
    let fits : SFits w32 c.decode.result = search rules in
    let e = to_z-of_z w32 c.decode.result fits ∙ number_read _ _ gr s st (held gr c.args.handle) _ c.decode.result (held-means _ _ gr s st c.args.handle c.in_ok-check_handle.ensures.gives) k c.decode.ensures.exact in
    tells-done _ (ValueOf c.args.handle) _ gr s st _ (ap tells (sym e)) (passed c.in_ok-check_handle.ensures (all_pass p))
