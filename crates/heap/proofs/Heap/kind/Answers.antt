use Rattle.std.proofs.Common.{ℕ, pos, sym, refl, ap}
use Rattle.graph.specs.declared.Call.TheVariants.{Kind}
use Rattle.graph.specs.Graph.{held}
use Rattle.graph.specs.Step.{tells}
use Rattle.graph.specs.Numbers.{kind_number}
use Rattle.heap.proofs.Judging.{all_pass}
use Rattle.heap.proofs.Acts.{tells-done}
use Rattle.heap.proofs.Readings.{held-means}
use Rattle.heap.proofs.Exits.{ends}
use Rattle.heap.proofs.Heap.kind.Goals as goal

pub returns : goal.returns
returns g c =
    ends _ _ (Kind c.args.handle) _ _ _ refl refl refl λ gr s st.
    tells-done _ (Kind c.args.handle) _ gr s st (pos (kind_number c.kind_of.result)) (ap (λ (k : ℕ). tells (pos k)) (sym (c.kind_of.ensures gr s (held gr c.args.handle) st (held-means _ _ gr s st c.args.handle c.in_ok-check_handle.ensures.gives))))
    (all_pass c.in_ok-check_handle.ensures)
