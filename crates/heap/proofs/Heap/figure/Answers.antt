use Rattle.std.proofs.Common.{ℕ, pos, sym, refl, ap}
use Rattle.graph.specs.declared.Call.TheVariants.{Figure}
use Rattle.graph.specs.Graph.{held}
use Rattle.graph.specs.Step.{tells}
use Rattle.heap.proofs.Judging.{passed, all_pass, next, stop}
use Rattle.heap.proofs.Acts.{tells-done}
use Rattle.heap.proofs.Readings.{held-means}
use Rattle.heap.proofs.Exits.{exits, ends}
use Rattle.heap.proofs.Heap.figure.Goals as goal

pub returns-in_err-figure : goal.returns-in_err-figure
returns-in_err-figure g c =
    exits _ _ (Figure c.args.handle) _ pos c.from_residual-in_err-figure.result c.from_residual-in_err-figure.ensures.1 λ gr s st.
    next c.in_ok-check_handle.ensures (stop _ (c.in_err-figure.ensures gr s (held gr c.args.handle) st (held-means _ _ gr s st c.args.handle c.in_ok-check_handle.ensures.gives)))

pub returns : goal.returns
returns g c =
    ends _ _ (Figure c.args.handle) _ _ _ refl refl refl λ gr s st.
    let p = c.in_ok-figure.ensures gr s (held gr c.args.handle) st (held-means _ _ gr s st c.args.handle c.in_ok-check_handle.ensures.gives) in
    tells-done _ (Figure c.args.handle) _ gr s st (pos c.in_ok-figure.figure) (ap (λ (n : ℕ). tells (pos n)) (sym p.gives)) (passed c.in_ok-check_handle.ensures (all_pass p))
