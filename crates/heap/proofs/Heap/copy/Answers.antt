use Rattle.std.proofs.Common.{refl}
use Rattle.graph.specs.declared.Call.TheVariants.{Copy}
use Rattle.graph.specs.Graph.{held}
use Rattle.graph.proofs.Rests.{read-handle}
use Rattle.heap.specs.Views.{view}
use Rattle.heap.proofs.Judging.{passed, all_pass}
use Rattle.heap.proofs.Acts.{sets-done}
use Rattle.heap.proofs.Heap.copy.Goals as goal

pub returns : goal.returns
returns g c =
    let v = view {S = g.row.S.Denot} g.M.Memory.words c.args.self.now in
    record {
      follows =
          record {
            done = λ gr s st.
                sets-done _ (Copy c.args.target c.args.source) v gr s st c.args.target _ (held gr c.args.source) refl
                (passed c.in_ok-check_handle.ensures (all_pass c.in_ok-check_handle-2.ensures))
                (read-handle _ _ gr s _ _ st.rests c.args.source c.in_ok-check_handle-2.ensures.gives);
            limit = refl;
          };
      alters = refl;
      scheme = refl;
    }
